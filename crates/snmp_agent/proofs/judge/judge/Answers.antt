use Rattle.std.proofs.Common.{sym, subst, arith}
use Rattle.std.proofs.lemmas.Result.{err_from_is_err_and}
use Rattle.engine_clock.specs.Pairs.{BootsAndTime}
use Rattle.engine_clock.specs.Windows.{InAgentWindow}
use Rattle.usm_core.specs.Answers.{verified_of}
use Rattle.snmp_incoming.specs.Texts.{text_of}
use Rattle.snmp_incoming.specs.Outcome.{pair_in}
use Rattle.snmp_agent.specs.Agent.{taker_at}
use Rattle.snmp_agent.proofs.Judging.{not_both, inside, stopped, told_refused, unread_refused, no_memory, uncounted, late, unopened, reads}
use Rattle.snmp_agent.proofs.judge.judge.Goals as goal

pub returns-in_default-clause-rows : goal.returns-in_default-clause-rows
returns-in_default-clause-rows c = rw c.plain.ensures.refusal (stopped (taker_at c.args.engine.now) c.args.users.now.users c.args.now c.args.datagram.now (λ runs. let past = c.in_default.ensures in omega (arith, past, runs)))

pub returns-in-Err-clause-rows : goal.returns-in-Err-clause-rows
returns-in-Err-clause-rows c =
    let rows = rw c.in-Err.is at c.requires.rows in
    let of = c.verified_was_read.ensures.unread c.args.datagram.now c.in-Err.why.refusal rows in
    unread_refused (taker_at c.args.engine.now) c.args.users.now.users c.args.now c.args.datagram.now c.in-Some.ensures.0 c.in-Err.why.refusal of rows

pub returns-in-Err-clause-memory : goal.returns-in-Err-clause-memory
returns-in-Err-clause-memory c is =
    let rows = rw c.in-Err.is at c.requires.rows in
    absurd (no_memory c.in-Err.why.refusal (c.verified_was_read.ensures.unread c.args.datagram.now c.in-Err.why.refusal rows) is)

pub returns-in-Err-clause-unread : goal.returns-in-Err-clause-unread
returns-in-Err-clause-unread c _ =
    let rows = rw c.in-Err.is at c.requires.rows in
    uncounted c.in-Err.why.refusal (c.verified_was_read.ensures.unread c.args.datagram.now c.in-Err.why.refusal rows)

pub returns-in_err-checked-clause-rows : goal.returns-in_err-checked-clause-rows
returns-in_err-checked-clause-rows c =
    let p = err_from_is_err_and c.from_residual.result c.from_residual.ensures.1 in
    rw (p.1, p.2) (told_refused (taker_at c.args.engine.now) c.args.users.now.users c.args.now c.args.datagram.now c.in-Some.ensures.0 c.in_err-checked.field-0.0.refusal c.in_err-checked.ensures.memory c.in_err-checked.ensures.rows)

pub returns-then-not-is_in_window-clause-rows : goal.returns-then-not-is_in_window-clause-rows
returns-then-not-is_in_window-clause-rows c =
    let v = verified_of c.in_ok-checked.checked in
    rw c.plain-then-not-is_in_window.ensures.refusal
    (late (taker_at c.args.engine.now) c.args.users.now.users c.args.now c.args.datagram.now c.in-Some.ensures.0 v c.in_ok-checked.ensures.rows
    (λ fresh. not_both c.is_in_window.result _ c.is_in_window.ensures c.if-not-is_in_window.true (λ auth. subst (λ (p : BootsAndTime). InAgentWindow p (pair_in v)) (sym c.in-Some.ensures.1) (fresh auth))))

pub returns-in_default-opening-clause-rows : goal.returns-in_default-opening-clause-rows
returns-in_default-opening-clause-rows c =
    let v = verified_of c.in_ok-checked.checked in
    let fresh = inside _ _ v c.in-Some.ensures.1 (c.is_in_window.ensures.0 c.if-not-is_in_window.false) in
    rw c.plain-in_default-opening.ensures.refusal
    (unopened (taker_at c.args.engine.now) c.args.users.now.users c.args.now c.args.datagram.now c.in-Some.ensures.0 v c.in_ok-checked.ensures.rows fresh
    (rw c.in_default-opening.is at c.in_ok-opening.ensures.opened))

pub returns-clause-rows : goal.returns-clause-rows
returns-clause-rows c =
    let v = verified_of c.in_ok-checked.checked in
    let fresh = inside _ _ v c.in-Some.ensures.1 (c.is_in_window.ensures.0 c.if-not-is_in_window.false) in
    reads (taker_at c.args.engine.now) c.args.users.now.users c.args.now c.args.datagram.now c.in-Some.ensures.0 v c.in_ok-checked.ensures.rows fresh
    (text_of c.in-Some-opening.text) _ (rw (c.in-Some-opening.is, c.in_ok-checked.ensures.users) at c.in_ok-opening.ensures.opened) c.read_text.ensures
