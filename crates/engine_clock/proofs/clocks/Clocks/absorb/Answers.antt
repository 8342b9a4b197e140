use Rattle.std.proofs.Common.{◌≡◌, true, false, sym, subst}
use Rattle.engine_clock.specs.Marks.{HoldsAll}
use Rattle.engine_clock.proofs.clocks.Clocks.absorb.Goals as goal

pub returns-then-holds_all-clause-held : goal.returns-then-holds_all-clause-held
returns-then-holds_all-clause-held c = λ every. c.join_all.ensures.held (subst (HoldsAll c.args.self.now) (sym c.other.view_is) every)

pub returns-in_err-joined-clause-held : goal.returns-in_err-joined-clause-held
returns-in_err-joined-clause-held c = λ every.
    let wrong : false ≡ true = c.if-holds_all.ensures.1 (subst (HoldsAll c.args.self.now) (sym c.other.view_is) every) in cc wrong

pub returns-in_err-join_all-clause-held : goal.returns-in_err-join_all-clause-held
returns-in_err-join_all-clause-held c = λ every.
    let wrong : false ≡ true = c.if-holds_all.ensures.1 (subst (HoldsAll c.args.self.now) (sym c.other.view_is) every) in cc wrong
