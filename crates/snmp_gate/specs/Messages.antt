-- What an accepted message asks, and of whom (RFC 3412, section 7.2; RFC 3415, section 3; RFC 3416, section 3).
--
-- `question_given`, `question_in`: what a message asks. `requester_in`: who asks. `seen_in`, `set_in`: the variables
-- that may be seen, and set, by a message that asks it. `IsPduOf`: the PDU of such a message. `IsViewerOf`: its sender.
-- `IsAnswerFor`: what isAccessAllowed answers for a variable.
use Rattle.std.specs.Prelude.{◌≡◌, ℕ, List, Option, option_and_then, option_map}
use Rattle.snmp_message.specs.Scoped.{Contexts, scoped_front_in}
use Rattle.snmp_msg.specs.Pdu.{PduParts, pdu_in}
use Rattle.snmp_msg.specs.declared.pdu.Pdu.{Pdu}
use Rattle.snmp_msg.specs.Variables.{Variable}
use Rattle.vacm_core.specs.Allowed.{Allowed, Requester}
use Rattle.vacm_core.specs.Tables.{Tables}
use Rattle.vacm_core.specs.declared.access.Access.{Access}
use Rattle.vacm_core.specs.declared.access.ViewType.{ViewType}
use Rattle.vacm_core.specs.declared.access.ViewType.TheVariants.{Read, Write}
use Rattle.vacm_next.specs.Next.{Sees}
use Rattle.snmp_incoming.specs.Outcome.{Given}
use Rattle.snmp_agent.specs.Decides.{question as requester}
use Rattle.snmp_responder.specs.declared.viewer.Viewer.{Viewer}
use Rattle.snmp_gate.specs.Question.{Question}
use Rattle.snmp_gate.specs.declared.waiting_message.WaitingMessage.{WaitingMessage}

-- what a message of this client asks that has these contexts and this PDU
abbrev pub question_with : List ℕ → Given → Contexts → PduParts → Question
question_with client g c p = record {
  client = client;
  user = g.user;
  level = g.level;
  engine = c.engine;
  context = c.name;
  tag = p.tag;
  second = p.second;
  third = p.third;
  list = p.list;
}

-- what an accepted message of this client asks, by its ScopedPDU
abbrev pub question_given : List ℕ → Given → Option Question
question_given client g =
    option_and_then (λ (c : Contexts). option_map (question_with client g c) (pdu_in c.pdu)) (scoped_front_in g.text)

abbrev pub question_in : WaitingMessage → Option Question
question_in m = question_given m.client.items m.kept

abbrev pub requester_in : Question → Requester
requester_in q = requester q.user q.level q.context

abbrev pub seen_in : Tables → Question → List ℕ → Type 0
seen_in tables q = Sees tables (requester_in q) Read

abbrev pub set_in : Tables → Question → List ℕ → Type 0
set_in tables q = Sees tables (requester_in q) Write

-- the PDU is that of a message that asks this
pub record IsPduOf (q : Question) (pdu : Pdu) : Type 0 where
  pub tag : pdu.tag ≡ q.tag
  pub second : pdu.second ≡ q.second
  pub third : pdu.third ≡ q.third
  pub list : pdu.list.now ≡ q.list

-- the sender of such a message, with these tables
pub record IsViewerOf (tables : Tables) (q : Question) (viewer : Viewer) : Type 0 where
  pub tables_are : viewer.vacm.now ≡ tables
  pub model : viewer.model ≡ (requester_in q).model
  pub name : viewer.name.now ≡ q.user
  pub level : viewer.level ≡ q.level
  pub context : viewer.context.now ≡ q.context

-- isAccessAllowed answers so for the variable of this name
abbrev pub IsAnswerFor : Viewer → ViewType → Variable → Access → Type 0
IsAnswerFor viewer view v access = Allowed viewer.vacm.now (record {
  model = viewer.model;
  name = viewer.name.now;
  level = viewer.level;
  context = viewer.context.now;
}) view v.name access
