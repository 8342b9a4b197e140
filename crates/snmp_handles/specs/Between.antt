-- Between the functions: what is written for a caller, before it is left to be sent.
use Rattle.std.specs.Prelude.{◌≡◌, ℕ, List, Result, Ok, Err, false, true}
use Rattle.std.specs.Global.{Vec}
use Rattle.snmp_ber.specs.declared.level.Level.{Level}
use Rattle.snmp_msg.specs.Variables.{Variable, AreBindings}
use Rattle.snmp_incoming.specs.Outcome.{Given}
use Rattle.snmp_msg.specs.PduTypes.{is_confirmed}
use Rattle.snmp_agent.specs.Agent.{AgentState}
use Rattle.snmp_agent.specs.Sent.{CanSendAt, RefusesSenderAt}
use Rattle.snmp_handles.specs.Agents.{HasNoBindings, Notice, IsNoticeText, StopsNotice}
use Rattle.snmp_message.specs.declared.refusal.Refusal.{Refusal}
use Rattle.snmp_handles.specs.declared.agent.NoticeTo.{NoticeTo}
use Rattle.snmp_handles.specs.declared.fault.CallFault.{CallFault}
use Rattle.snmp_handles.specs.declared.fault.CallFault.TheVariants.{Refused, NotAsked, BadBindings}

-- Nothing can be answered to what was given: it isn't asked for an answer, or nothing can be sent for its
-- user at its level.
abbrev pub CannotAnswer : AgentState → ℕ → Given → CallFault → Type 0
CannotAnswer agent now g (Refused fault) = (is_confirmed g.tag ≡ true) × RefusesSenderAt agent now g.user g.level fault
CannotAnswer agent now g NotAsked = is_confirmed g.tag ≡ false
CannotAnswer agent now g _ = ⊥

-- What was given is answered so, or is refused: it isn't asked for an answer, or these octets aren't
-- bindings, or the answer stops.
abbrev pub Answering : {T : Type 0} → AgentState → ℕ → Given → List ℕ → (T → Type 0) → (Refusal → Type 0)
    → Result T CallFault → Type 0
Answering agent now g list Told Stops (Ok told) = (is_confirmed g.tag ≡ true) × Told told
Answering agent now g list Told Stops (Err (Refused fault)) = (is_confirmed g.tag ≡ true) × Stops fault
Answering agent now g list Told Stops (Err NotAsked) = is_confirmed g.tag ≡ false
Answering agent now g list Told Stops (Err BadBindings) = (is_confirmed g.tag ≡ true) × HasNoBindings agent now g list
Answering agent now g list Told Stops (Err _) = ⊥

abbrev pub notice_of : NoticeTo → Notice
notice_of to = record {
  id = to.id;
  user = to.user.now;
  level = to.level;
  request_id = to.request_id;
  context_engine = to.context_engine.now;
  context_name = to.context_name.now;
}

abbrev pub AnswersNotice : AgentState → ℕ → Notice → Level → List ℕ → List ℕ → Result (Vec ℕ) CallFault → Type 0
AnswersNotice agent now n level list salt (Ok text) = IsNoticeText agent now n level list salt text.items
AnswersNotice agent now n level list salt (Err (Refused fault)) = StopsNotice agent now n level list salt fault
AnswersNotice agent now n level list salt (Err BadBindings) = CanSendAt agent now n.user level
    × ((vs : List Variable) → AreBindings vs list → ⊥)
AnswersNotice agent now n level list salt (Err _) = ⊥
