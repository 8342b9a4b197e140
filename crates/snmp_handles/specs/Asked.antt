-- Between the functions: what is asked for a caller, before it is left to be sent.
use Rattle.std.specs.Prelude.{ℕ, pos, List, Result, Ok, Err}
use Rattle.std.specs.Global.{Vec}
use Rattle.snmp_ber.specs.declared.level.Level.{Level}
use Rattle.snmp_msg.specs.Variables.{Variable, AreBindings}
use Rattle.snmp_outgoing.specs.Sends.{CanSend}
use Rattle.snmp_manager.specs.Views.{Held}
use Rattle.snmp_manager.specs.Pendings.{Remembers}
use Rattle.snmp_manager.specs.declared.pending.Pending.{Pending}
use Rattle.snmp_handles.specs.Managers.{Asking, IsRequestText, StopsRequest}
use Rattle.snmp_handles.specs.declared.manager.AskedOf.{AskedOf}
use Rattle.snmp_handles.specs.declared.fault.CallFault.{CallFault}
use Rattle.snmp_handles.specs.declared.fault.CallFault.TheVariants.{Refused, BadBindings}

abbrev pub asking_of : AskedOf → Asking
asking_of of = record {
  id = of.id;
  engine = of.engine.now;
  user = of.user.now;
  level = of.level;
  context_engine = of.context_engine.now;
  context_name = of.context_name.now;
  tag = of.tag;
  request_id = of.request_id;
  second = of.second;
  third = of.third;
}

-- what is remembered of the request at this level
abbrev pub RemembersAsking : Pending → Asking → Level → Type 0
RemembersAsking a ask level = Remembers a ask.id ask.engine ask.user level ask.context_engine ask.context_name
    (pos ask.request_id)

abbrev pub AnswersRequest : Held → ℕ → Asking → Level → List ℕ → List ℕ → Result (Vec ℕ × Pending) CallFault → Type 0
AnswersRequest held now ask level list salt (Ok sent) = IsRequestText held now ask level list salt sent.0.items
    × RemembersAsking sent.1 ask level
AnswersRequest held now ask level list salt (Err (Refused fault)) = StopsRequest held now ask level list salt fault
AnswersRequest held now ask level list salt (Err BadBindings) = CanSend held.users ask.user level
    × ((vs : List Variable) → AreBindings vs list → ⊥)
AnswersRequest held now ask level list salt (Err _) = ⊥
