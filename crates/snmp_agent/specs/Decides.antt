-- Decisions on the variables that a request names (RFC 3413, section 3.2; RFC 3415, section 3).
--
-- `IsDecision` (RFC 3413, section 3.2, RFC 3415, section 3). For each variable that a GetRequest or a
-- SetRequest names, in their order, `Allowed` of the message's user and level, its context's name, the
-- user-based model and the read or the write view.
use Rattle.std.specs.Prelude.{◌≡◌, ◌≢◌, ◌⊎◌, ℕ, List, Option, Some, None}
use Rattle.std.specs.List.{AllZip}
use Rattle.snmp_ber.specs.declared.level.Level.{Level}
use Rattle.snmp_message.specs.Scoped.{Contexts}
use Rattle.snmp_msg.specs.Variables.{Variable, AreBindings}
use Rattle.snmp_msg.specs.PduTypes.{pdu_tag}
use Rattle.snmp_msg.specs.declared.pdu_type.PduType.TheVariants.{GetRequest, SetRequest}
use Rattle.snmp_msg.specs.Pdu.{PduParts}
use Rattle.vacm_core.specs.Tables.{Tables, HaveSameRows}
use Rattle.vacm_core.specs.Allowed.{Requester, Allowed}
use Rattle.vacm_core.specs.declared.access.ViewType.{ViewType}
use Rattle.vacm_core.specs.declared.access.ViewType.TheVariants.{Read, Write}
use Rattle.vacm_core.specs.declared.access.Access.{Access}
use Rattle.vacm_next.specs.Next.{IsLeastFrom, NoneFrom, Sees}
use Rattle.snmp_agent.specs.declared.decision.Decision.{Decision}
use Rattle.snmp_agent.specs.declared.decision.Decision.TheVariants.{ByName, NotByName}
use Rattle.snmp_incoming.specs.Outcome.{Given}
use Rattle.snmp_agent.specs.Agent.{AgentState}

-- who asks: model 3, the user-based one, a user, its level, and the name of a context
abbrev pub question : List ℕ → Level → List ℕ → Requester
question user level context = record { model = 3; name = user; level = level; context = context }

-- the same of an accepted message: its user and level, and the name of its context
abbrev pub question_of : Given → Contexts → Requester
question_of g c = question g.user g.level c.name

-- The least name, at or after this one, that such a message may see; or there is none (RFC 3416, section 4.2.2).
abbrev pub NextSeen : Tables → Requester → ViewType → List ℕ → Option (List ℕ) → Type 0
NextSeen tables message view from None = NoneFrom (Sees tables message view) from
NextSeen tables message view from (Some next) = IsLeastFrom (Sees tables message view) from next

-- A GetRequest is decided by the read view, and a SetRequest by the write view.
abbrev pub IsDecidedBy : ℕ → ViewType → Type 0
IsDecidedBy tag view = ((tag ≡ pdu_tag GetRequest) × (view ≡ Read))
    ⊎ ((tag ≡ pdu_tag SetRequest) × (view ≡ Write))

-- the answer for the name of each variable, in their order
abbrev pub AreAnswers : Tables → Requester → ViewType → List Variable → List Access → Type 0
AreAnswers tables message view vs answers = AllZip (λ v answer. Allowed tables message view v.name answer) vs answers

abbrev pub IsDecision : Tables → Given → Contexts → PduParts → Decision → Type 0
IsDecision tables g c p NotByName = (p.tag ≢ pdu_tag GetRequest) × (p.tag ≢ pdu_tag SetRequest)
IsDecision tables g c p (ByName answers) =
    (view : ViewType) × IsDecidedBy p.tag view
    × ((vs : List Variable) × AreBindings vs p.list × AreAnswers tables (question_of g c) view vs answers.items)

-- The agent's tables were made of these rows, in whatever order they came.
abbrev pub HoldsRows : Tables → AgentState → Type 0
HoldsRows rows agent = HaveSameRows rows agent.tables
