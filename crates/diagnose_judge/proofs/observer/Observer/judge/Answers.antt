use Rattle.std.proofs.Common.{refl, ◌∙◌}
use Rattle.usm_core.specs.Answers.{verified_of}
use Rattle.snmp_incoming.specs.Answers.{given_of}
use Rattle.diagnose_judge.proofs.Judgings.{judges_unread, judges_unopened, judges_sent_to, judges_sent_by}
use Rattle.diagnose_judge.proofs.observer.Observer.judge.Goals as goal

-- refused down to the digest
pub returns-in-Err-clause-judged : goal.returns-in-Err-clause-judged
returns-in-Err-clause-judged c =
    let e = c.in-Err.ensures in
    rw (← c.self.view_is)
    (judges_unread _ (record { users = c.open_auth.new.self.users; clocks = c.self.inside.clocks }) e.users _ _ refl c.in-Err.refused.refusal e.memory e.rows _ c.unread.ensures)

-- it can't be opened, or its PDU isn't read
pub returns-in-Err-2-clause-judged : goal.returns-in-Err-2-clause-judged
returns-in-Err-2-clause-judged c =
    let e = c.in-Ok.ensures in
    rw (← c.self.view_is)
    (judges_unopened _ (record { users = c.open.new.users.users; clocks = c.self.inside.clocks }) (c.in_ok-taken.ensures.users ∙ e.users) _ _ (verified_of c.in-Ok.checked) e.rows refl _
    (rw (e.users, c.in-Err-2.is) at c.in_ok-taken.ensures.opens))

-- it was sent to the authoritative engine
pub returns-then-is_confirmed-clause-judged : goal.returns-then-is_confirmed-clause-judged
returns-then-is_confirmed-clause-judged c =
    let e = c.in-Ok.ensures in
    rw (← c.self.view_is)
    (judges_sent_to _ (record { users = c.open.new.users.users; clocks = c.self.inside.clocks }) (c.in_ok-taken.ensures.users ∙ e.users) _ _ (verified_of c.in-Ok.checked) e.rows (given_of c.in-Ok-2.taken)
    (rw (e.users, c.in-Ok-2.is) at c.in_ok-taken.ensures.opens) refl e.judged c.in-Ok.checked.pair_fits.time (cc (c.is_confirmed.ensures, c.if-is_confirmed.true)) c.verdict_of-verdict.result
    (rw (c.in_ok-taken.ensures.users, e.users) at c.verdict_of-verdict.ensures))

-- the authoritative engine sent it
pub returns-clause-judged : goal.returns-clause-judged
returns-clause-judged c =
    let e = c.in-Ok.ensures in
    rw (← c.self.view_is)
    (judges_sent_by _ (record { users = c.open.new.users.users; clocks = c.learn.new.clocks }) (c.in_ok-taken.ensures.users ∙ e.users) _ _ (verified_of c.in-Ok.checked) e.rows (given_of c.in-Ok-2.taken)
    (rw (e.users, c.in-Ok-2.is) at c.in_ok-taken.ensures.opens) e.authentic c.in_ok-learn.ensures.learned (cc (c.is_confirmed.ensures, c.if-is_confirmed.false)) c.is_fresh_once_learned-in_window.result
    (c.is_fresh_once_learned-in_window.ensures c.learn.new.clocks c.in_ok-learn.ensures.learned))
