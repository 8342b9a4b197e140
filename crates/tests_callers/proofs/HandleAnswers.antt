-- A Response that an agent's handle leaves, as a manager's handle takes it.
use Rattle.std.proofs.Common.{◌≡◌, ◌∙◌, ℕ, List, length, take, drop, Option, Some, Bool, true, false, refl, sym, ap, subst}
use Rattle.std.specs.Prelude.{◌≢◌, ⊤, pos, Result, Ok, Err}
use Rattle.std.specs.Int.{to_be_bytes, w64}
use Rattle.std.proofs.Math.Seq.{take-append_seam}
use Rattle.snmp_message.specs.Scoped.{Contexts}
use Rattle.snmp_message.specs.declared.refusal.Refusal.{Refusal}
use Rattle.snmp_message.specs.declared.refusal.Refusal.TheVariants.{OutOfMemory}
use Rattle.snmp_msg.specs.Pdu.{PduParts}
use Rattle.snmp_msg.specs.Variables.{Variable}
use Rattle.usm_core.specs.Table.{refusal_answer}
use Rattle.usm_core.specs.Verified.{manager as side}
use Rattle.snmp_incoming.specs.Outcome.{Given, as_manager, own_pair}
use Rattle.snmp_outgoing.specs.Speaks.{HasSameUser, Speech}
use Rattle.snmp_agent.specs.Responses.{response}
use Rattle.snmp_manager.specs.Takes.{Takes}
use Rattle.snmp_handles.specs.Agents.{AgentHeld, RespondsHeld}
use Rattle.snmp_handles.specs.Managers.{ManagerHeld, ManagerTakes}
use Rattle.snmp_handles.specs.Parts.{CopiesMessage}
use Rattle.snmp_handles.specs.declared.fault.CallFault.{CallFault}
use Rattle.snmp_handles.specs.declared.fault.CallFault.TheVariants.{Refused, BadArgument, NothingTaken, NotAsked, BadBindings, ShortBuffer}
use Rattle.snmp_handles.specs.declared.fault.CallFault.TheVariants.{BadConfiguration, BadClocks, TooManyRequests}
use Rattle.tests_callers.specs.AgentHandles.{IsAcceptedInTime}
use Rattle.tests_callers.specs.declared.agent_handles.HandleReply.{HandleReply}
use Rattle.tests_callers.proofs.HandleTakes.{told_answer}
use Rattle.tests_callers.proofs.InTime.{given_to_manager, late}

-- what is copied whole is the message
pub copied_text : (text old new : List ℕ) (before written : ℕ) (message : Option (List ℕ)) → message ≡ Some text → CopiesMessage {V = ⊤} message old new before written (Ok tt) → take written new ≡ text
copied_text text old new before written message is copies =
    let copied = subst (λ (m : Option (List ℕ)). CopiesMessage {V = ⊤} m old new before written (Ok tt)) is copies in
    rw (copied.1, copied.2) (take-append_seam text (drop (length text) old))

module _ (agent after : AgentHeld) (manager : ManagerHeld) (now at : ℕ) (reply : HandleReply) (old out : List ℕ) (before written : ℕ)
    (responds : RespondsHeld {V = ⊤} agent now reply.status reply.index reply.list.now (to_be_bytes w64 reply.salt) (Ok tt) after)
    (copies : CopiesMessage {V = ⊤} after.message old out before written (Ok tt)) where
  abbrev given : Given
  given = responds.1.0

  abbrev text : List ℕ
  text = responds.1.1

  abbrev says : List Variable → Given → Contexts → PduParts → Speech
  says vs g c p = response agent.agent.engine (own_pair agent.agent.boots agent.agent.started now) g c p (pos reply.status) (pos reply.index) vs (to_be_bytes w64 reply.salt)

  is_text : take written out ≡ text
  is_text = copied_text text old out before written after.message (ap (λ (h : AgentHeld). h.message) responds.1.4) copies

  -- it is of what is kept
  abbrev Answered : ManagerHeld → Bool → Given → Type 0
  Answered manager_after accepted g = HasSameUser side agent.agent.users manager.manager.users g.user g.level → IsAcceptedInTime agent.agent now g reply manager_after.manager.clocks at accepted

  of_kept : (manager_after : ManagerHeld) (accepted : Bool) → Answered manager_after accepted given → (g : Given) → agent.last ≡ Some g → Answered manager_after accepted g
  of_kept manager_after accepted answered g is =
      let both : Some given ≡ Some g = sym responds.1.2.0 ∙ is in
      let same : given ≡ g = cc both in
      subst (Answered manager_after accepted) same answered

  pub is_accepted : (manager_after : ManagerHeld) → ManagerTakes {V = ⊤} manager at (take written out) (Ok tt) manager_after → (g : Given) → agent.last ≡ Some g → Answered manager_after true g
  is_accepted manager_after takes = of_kept manager_after true (λ shared. (
    responds.1.3.0,
    responds.1.3.1,
    λ c p front pdu.
        given_to_manager manager.manager manager_after.manager manager.manager.users at text (take written out) _ _ _ takes.0 is_text refl takes.5
        ((responds.1.3.2 c p front pdu).1 manager.manager.users manager_after.manager.clocks at shared),
  ))

  refused_so : (manager_after : ManagerHeld) (r : Refusal) → r ≢ OutOfMemory → Takes manager.manager at (take written out) (refusal_answer r) manager_after.manager → Answered manager_after false given
  refused_so manager_after r other takes = λ shared. (
    responds.1.3.0,
    responds.1.3.1,
    λ c p front pdu.
        let told : Takes manager.manager at (take written out) (Some (Err r)) manager_after.manager = subst (λ (o : Option (Result Given Refusal)). Takes manager.manager at (take written out) o manager_after.manager) (told_answer r other) takes in
        late (as_manager manager_after.manager.clocks) manager.manager.users at text _ _ _ r ((responds.1.3.2 c p front pdu).1 manager.manager.users manager_after.manager.clocks at shared) (rw is_text at told.2),
  )

  pub is_refused : (manager_after : ManagerHeld) (fault : CallFault) → fault ≢ Refused OutOfMemory → ManagerTakes {V = ⊤} manager at (take written out) (Err fault) manager_after → (g : Given) → agent.last ≡ Some g → Answered manager_after false g
  is_refused manager_after (Refused r) other takes = of_kept manager_after false (refused_so manager_after r (λ is. other (ap Refused is)) takes.4)
  is_refused manager_after BadArgument other takes = absurd takes
  is_refused manager_after NothingTaken other takes = absurd takes
  is_refused manager_after NotAsked other takes = absurd takes
  is_refused manager_after BadBindings other takes = absurd takes
  is_refused manager_after ShortBuffer other takes = absurd takes
  is_refused manager_after BadConfiguration other takes = absurd takes
  is_refused manager_after BadClocks other takes = absurd takes
  is_refused manager_after TooManyRequests other takes = absurd takes
