use Rattle.std.proofs.Common.{ℕ, List, ◌∷◌, [], take, subst, sym}
use Rattle.std.proofs.lemmas.List.{take_all}
use Rattle.snmp_manager.specs.Runs.{HasTaken, moments_of}
use Rattle.tests_callers.proofs.HandleTakes.{moments_more}
use Rattle.tests_callers.proofs.manager_handles.hand_all.Goals as goal

pub loop-now-preserved : goal.loop-now-preserved
loop-now-preserved c =
    let item = c.loop-now-item.result in
    let at : ℕ × List ℕ = (item.0, item.1.items) in
    let one : HasTaken c.loop-now.manager.manager (at ∷ []) c.hand_one.new.manager.manager = subst (λ (w : List ℕ). HasTaken c.loop-now.manager.manager ((item.0, w) ∷ []) c.hand_one.new.manager.manager) c.deref.ensures.value (c.hand_one.ensures.taken c.if-not-hand_one.false) in
    let all = c.takes_are_joined.ensures.joined c.args.manager.now.manager c.loop-now.manager.manager c.hand_one.new.manager.manager (moments_of (take c.loop-now.now-index c.args.datagrams.now)) (at ∷ []) c.loop-now.invariant one in
    subst (λ (ts : List (ℕ × List ℕ)). HasTaken c.args.manager.now.manager ts c.hand_one.new.manager.manager) (sym (moments_more c.args.datagrams.now c.loop-now.now-index item c.loop-now-test.true c.loop-now-item.is)) all

pub returns : goal.returns
returns c = λ yes.
    let end = c.loop-now-test.false in
    let taken : HasTaken c.args.manager.now.manager (moments_of (take c.loop-now.now-index c.args.datagrams.now)) c.loop-now.manager.manager = c.loop-now.invariant in
    rw take_all at taken
