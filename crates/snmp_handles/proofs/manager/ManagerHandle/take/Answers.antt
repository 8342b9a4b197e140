use Rattle.usm_core.specs.Table.{refusal_answer}
use Rattle.std.proofs.Common.{◌≡◌, ℕ, List, Option, Some, None, Ok, refl, subst}
use Rattle.std.specs.Prelude.{IsSome}
use Rattle.snmp_incoming.specs.Outcome.{Given}
use Rattle.snmp_message.specs.declared.refusal.Refusal.{Refusal}
use Rattle.snmp_message.specs.declared.refusal.Refusal.TheVariants.{OutOfMemory}
use Rattle.snmp_manager.specs.Takes as manager
use Rattle.snmp_handles.specs.Managers.{ManagerHeld}
use Rattle.snmp_handles.proofs.manager.ManagerHandle.take.Goals as goal

pub returns-in-Ok-clause-takes : goal.returns-in-Ok-clause-takes
returns-in-Ok-clause-takes c =
    let nothing : Option (List ℕ) = None in
    let P : ManagerHeld → Type 0 = λ h.
    (x : Given) × (Some c.in-Ok.kept ≡ Some x) × (nothing ≡ nothing) × (c.self.inside.pending ≡ h.pending)
    × (c.self.inside.requests ≡ h.requests) × manager.Takes h.manager c.args.now c.args.datagram.now (Some (Ok x)) c.take_kept.new.self in
    subst P c.self.view_is (c.in-Ok.kept, refl, refl, refl, refl, c.in-Ok.ensures.takes)

pub returns-in-Err-clause-no_memory : goal.returns-in-Err-clause-no_memory
returns-in-Err-clause-no_memory c =
    rw (← c.self.view_is) (λ t e.
    let some = c.in-Err.ensures.no_memory t in
    let is : c.in-Err.fault.refusal ≡ OutOfMemory = cc e in
    let wrong = subst (λ (r : Refusal). IsSome (refusal_answer {X = Given} r)) is some in
    cc wrong)
