use Rattle.std.proofs.Common.{◌∙◌, subst, sym, decimal}
use Rattle.snmp_ber.proofs.Cuts.{no_cut, none_not_some}
use Rattle.engine_clock.proofs.Lines.{line-parts, engine_cut, boots_cut, tail_of_line, one_tail, entry_of, line_found}
use Rattle.engine_clock.specs.Reading.{IsTail}
use Rattle.engine_clock.proofs.saved.read_line.Goals as goal

pub returns-in_err-engine-clause-none : goal.returns-in_err-engine-clause-none
returns-in_err-engine-clause-none c =
    rw c.from_residual.ensures (λ e rest fits same. no_cut 32 _ _ _ c.in_err-engine.ensures.none (same ∙ line-parts c.args.form e rest))

pub returns-in_err-boots-clause-none : goal.returns-in_err-boots-clause-none
returns-in_err-boots-clause-none c =
    rw c.from_residual-in_err-boots.ensures (λ e rest fits same.
    let first = engine_cut c.args.form e rest fits _ _ _ c.in_ok-engine.ensures.found same in
    no_cut 32 _ _ _ c.in_err-boots.ensures.none first.1)

pub returns-in_err-time-clause-none : goal.returns-in_err-time-clause-none
returns-in_err-time-clause-none c =
    rw c.from_residual-in_err-time.ensures (λ e rest fits same.
    let first = engine_cut c.args.form e rest fits _ _ _ c.in_ok-engine.ensures.found same in
    let second = boots_cut c.args.form e rest fits _ _ _ c.in_ok-boots.ensures.found first.1 in
    c.in_err-time.ensures.none (decimal e.1.pair.time) e.1.seen rest (subst (λ text. IsTail c.args.form text (decimal e.1.pair.time) e.1.seen rest) (sym second.1) (tail_of_line c.args.form e rest fits)))

pub returns-in_err-engine-2-clause-none : goal.returns-in_err-engine-2-clause-none
returns-in_err-engine-2-clause-none c =
    rw c.from_residual-in_err-engine-2.ensures (λ e rest fits same.
    let first = engine_cut c.args.form e rest fits _ _ _ c.in_ok-engine.ensures.found same in
    none_not_some _ (c.in_err-engine-2.ensures.all e.0 (entry_of c.args.form e fits).engine first.0))

pub returns-in_err-pair-clause-none : goal.returns-in_err-pair-clause-none
returns-in_err-pair-clause-none c =
    rw c.from_residual-in_err-pair.ensures (λ e rest fits same.
    let first = engine_cut c.args.form e rest fits _ _ _ c.in_ok-engine.ensures.found same in
    let second = boots_cut c.args.form e rest fits _ _ _ c.in_ok-boots.ensures.found first.1 in
    let third = one_tail c.args.form _ _ (decimal e.1.pair.time) _ e.1.seen _ rest c.in_ok-time.ensures.found (subst (λ text. IsTail c.args.form text (decimal e.1.pair.time) e.1.seen rest) (sym second.1) (tail_of_line c.args.form e rest fits)) in
    none_not_some _ (c.in_err-pair.ensures.all e.1.pair (entry_of c.args.form e fits).pair second.0 third.0))

pub returns-clause-found : goal.returns-clause-found
returns-clause-found c =
    line_found c.args.form _ _ _ _ _ _ _ _ c.in_ok-engine.ensures.found c.in_ok-boots.ensures.found c.in_ok-time.ensures.found
    c.in_ok-engine-2.ensures.found c.in_ok-pair.ensures.found.0 c.in_ok-pair.ensures.found.1
