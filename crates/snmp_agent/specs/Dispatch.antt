-- Which accepted messages an agent answers, and what becomes of the others (RFC 3412, sections 4.2.2, 7.1 and
-- 7.2; RFC 3413, section 3.2).
--
-- `HandledBy` (RFC 3412, sections 4.2.2 and 7.2, RFC 3413, section 3.2). Why no application answers an
-- accepted message: a Response or a Report, for which no request waits; else the contextEngineID or the
-- PDU, for which nothing is registered; else the context's name, which no row has. `Refuses`: what a
-- refusal answers and leaves: one more in its counter, and for a PDU of the Confirmed Class the answer to
-- sending `refusing`, the report with the counter after it.
use Rattle.usm_core.specs.Table.{refusal_answer}
use Rattle.snmp_message.specs.declared.refusal.Refusal.{Refusal}
use Rattle.std.specs.Prelude.{◌≡◌, ◌⊎◌, ℕ, true, List, Option, Some, None, Result, Ok, Err}
use Rattle.std.specs.Global.{Vec}
use Rattle.snmp_message.specs.Scoped.{Contexts}
use Rattle.snmp_msg.specs.PduTypes.{IsRead, IsResponse, IsWrite, is_confirmed}
use Rattle.snmp_msg.specs.Pdu.{PduParts}
use Rattle.vacm_core.specs.Tables.{Tables}
use Rattle.vacm_core.specs.Allowed.{HasContext}
use Rattle.snmp_message.specs.declared.refused_at.RefusedAt.{RefusedAt}
use Rattle.snmp_incoming.specs.Outcome.{Given}
use Rattle.snmp_outgoing.specs.declared.counter.Counter.{Counter}
use Rattle.snmp_outgoing.specs.declared.counter.Counter.TheVariants as counters
use Rattle.snmp_agent.specs.CounterReports.{refusing}
use Rattle.snmp_agent.specs.declared.unhandled.Unhandled.{Unhandled}
use Rattle.snmp_agent.specs.declared.unhandled.Unhandled.TheVariants.{NoRequest, UnknownPduHandlers}
use Rattle.snmp_agent.specs.declared.unhandled.Unhandled.TheVariants.{UnavailableContexts, UnknownContexts}
use Rattle.snmp_agent.specs.Counts.{count_after, one_more}
use Rattle.snmp_agent.specs.Agent.{AgentState}
use Rattle.snmp_agent.specs.Sent.{Sends, CanBeSent}
use Rattle.snmp_agent.specs.Report.{report_of}

-- ---- which are answered

-- the PDUs that a command responder is registered for, those of the Read and the Write Class: GetRequest,
-- GetNextRequest, GetBulkRequest and SetRequest
abbrev pub IsCommand : ℕ → Type 0
IsCommand tag = IsRead tag ⊎ IsWrite tag

-- A command responder is registered for the PDU at this contextEngineID: the engine's own, and no other.
abbrev pub IsRegistered : List ℕ → Contexts → PduParts → Type 0
IsRegistered engine c p = (c.engine ≡ engine) × IsCommand p.tag

-- None where it is to be answered; else the first that applies
abbrev pub HandledBy : List ℕ → Tables → Contexts → PduParts → Option Unhandled → Type 0
HandledBy engine tables c p None = IsRegistered engine c p × HasContext tables.contexts c.name
-- a PDU of the Response Class goes to the request that waits for it
HandledBy engine tables c p (Some NoRequest) = IsResponse p.tag
HandledBy engine tables c p (Some UnknownPduHandlers) = (IsResponse p.tag → ⊥) × (IsRegistered engine c p → ⊥)
HandledBy engine tables c p (Some UnknownContexts) = IsRegistered engine c p × (HasContext tables.contexts c.name → ⊥)
HandledBy engine tables c p (Some UnavailableContexts) = ⊥

-- the counter of each; none of an answer that no request waits for
abbrev pub counter_of : Unhandled → Option Counter
counter_of NoRequest = None
counter_of UnknownPduHandlers = Some counters.UnknownPduHandlers
counter_of UnavailableContexts = Some counters.UnavailableContexts
counter_of UnknownContexts = Some counters.UnknownContexts

-- the agent after it was counted
abbrev pub agent_counted : AgentState → Unhandled → AgentState
agent_counted a why = record a { counts = one_more a.counts (counter_of why) }

-- ---- the report

-- A report is written: the PDU is of the Confirmed Class, and there is this counter.
pub record IsReported (p : PduParts) (why : Unhandled) (counter : Counter) : Type 0 where
  pub confirmed : is_confirmed p.tag ≡ true
  pub counted : counter_of why ≡ Some counter

-- what is sent of it: the answer to sending the report with the counter after one more
abbrev pub SendsRefusal : AgentState → ℕ → Given → PduParts → Counter → List ℕ → Result (List ℕ) Refusal → Type 0
SendsRefusal a now g p counter salt = Sends a now
    (λ own. refusing a.engine own g p counter (count_after a.counts counter) salt)

-- There is a report, and none of the refusals before its text applies.
abbrev pub RefusalCanBeSent : AgentState → ℕ → Given → PduParts → Unhandled → List ℕ → Type 0
RefusalCanBeSent a now g p why salt =
    (counter : Counter) × IsReported p why counter
    × CanBeSent a now (λ own. refusing a.engine own g p counter (count_after a.counts counter) salt)

-- A message that is reported is counted too, and where the report can't be sent nothing changes; another is
-- counted alone, where it has a counter.
abbrev pub Refuses : AgentState → ℕ → Given → PduParts → Unhandled → List ℕ → Result (Option (List ℕ)) Refusal
    → AgentState → Type 0
Refuses old now g p why salt (Ok None) new = ((counter : Counter) → IsReported p why counter → ⊥)
    × (new ≡ agent_counted old why)
Refuses old now g p why salt (Ok (Some text)) new =
    ((counter : Counter) × IsReported p why counter × SendsRefusal old now g p counter salt (Ok text))
    × (new ≡ agent_counted old why)
Refuses old now g p why salt
    (Err refusal) new = ((counter : Counter) × IsReported p why counter
    × SendsRefusal old now g p counter salt (Err refusal))
    × (new ≡ old)

-- what the call answers; None if memory ran out
abbrev pub refusing_answer : Result (Option (Vec ℕ)) RefusedAt → Option (Result (Option (List ℕ)) Refusal)
refusing_answer (Ok text) = Some (Ok (report_of text))
refusing_answer (Err e) = refusal_answer e.refusal
