-- Reports (RFC 3412, section 7.1; RFC 3414, section 3.2): on which refusal there is one, and what it says.
--
-- `IsReport` (RFC 3412, section 7.1, RFC 3414, section 3.2). `Offers`: the refusal has a counter, the
-- reportable flag is set, and the PDU, where it isn't sealed and can be read, is of the Confirmed Class.
-- The report is then the `SealedText` of `reporting`: the agent's engine, boots and time, the msgID, the
-- user and (where it can be read) the request-id of the message, and the counter after it was counted; at
-- authNoPriv for counter 2, else at noAuthNoPriv. `IsShortReport`: each sender can take it.
use Rattle.snmp_message.specs.declared.refusal.Refusal.{Refusal}
use Rattle.std.specs.Prelude.{◌≡◌, ◌⊎◌, ◌≤◌, ℕ, ℤ, pos, true, IfSome, List, Option, Some, None, Err, length, option_map}
use Rattle.std.specs.Global.{Vec}
use Rattle.snmp_message.specs.Layout.{Parts}
use Rattle.snmp_message.specs.Scoped.{Contexts, HasScoped}
use Rattle.snmp_msg.specs.Pdu.{PduParts, PduText}
use Rattle.engine_clock.specs.Pairs.{BootsAndTime}
use Rattle.usm_users.specs.User.{User}
use Rattle.usm_core.specs.Verified.{OuterOf, SecurityOf}
use Rattle.usm_core.specs.Sealed.{Sending, SealedText}
use Rattle.snmp_incoming.specs.Outcome.{Taker, own_pair, Outcome}
use Rattle.snmp_msg.specs.PduTypes.{is_confirmed}
use Rattle.snmp_agent.specs.CounterReports.{reporting}
use Rattle.snmp_agent.specs.declared.reported_message.ReportedMessage.{ReportedMessage}
use Rattle.snmp_agent.specs.RefusalCounters.{counter_of, counter_at}
use Rattle.snmp_agent.specs.Agent.{AgentState}

-- ---- whether one is offered

-- The message isn't sealed, and its PDU can be read.
pub record PlainPdu (w : List ℕ) (m : Parts) : Type 0 where
  pub contexts : Contexts
  pub is_scoped : HasScoped w m contexts
  pub pdu : PduParts
  pub is_pdu : PduText contexts.pdu pdu

-- The message asks for reports: the reportableFlag is set, and its PDU, where it can be read, is of the
-- Confirmed Class.
pub record AsksForReport (w : List ℕ) : Type 0 where
  pub outer : OuterOf w
  pub security : SecurityOf outer.parts
  pub reportable : outer.parts.header.reportable ≡ true
  pub confirmed : (plain : PlainPdu w outer.parts) → is_confirmed plain.pdu.tag ≡ true

-- A report on this refusal is offered.
pub record Offers (w : List ℕ) (refusal : Refusal) : Type 0 where
  pub counter : ℕ
  pub counter_is : counter_of refusal ≡ Some counter
  pub asks : AsksForReport w

-- one is offered on the answer to the datagram, so that memory is needed for it
abbrev pub OffersOnAnswer : Taker → List User → ℕ → List ℕ → Type 0
OffersOnAnswer taker users now w = (refusal : Refusal) × Outcome taker users now w (Err refusal) × Offers w refusal

-- ---- what it says

-- the request-id that it has: the PDU's where that can be read, and else 0
abbrev pub IsCopiedId : List ℕ → Parts → ℤ → Type 0
IsCopiedId w m id = ((plain : PlainPdu w m) × (id ≡ plain.pdu.id)) ⊎ ((PlainPdu w m → ⊥) × (id ≡ pos 0))

-- The report on this refusal of the datagram, by the users and the engine of the agent, its boots and time, and
-- its counters after the refusal was counted; or None where none is offered.
pub data IsReport (users : List User) (engine : List ℕ) (own : BootsAndTime) (counters : List ℕ) (w : List ℕ)
    (refusal : Refusal) : Option (List ℕ) → Type 0 where
  offered : (offer : Offers w refusal) (id : ℤ) (text : List ℕ) → IsCopiedId w offer.asks.outer.parts id
      → SealedText users (reporting engine own offer.asks.outer.parts.header.id offer.asks.security.fields.user id
      offer.counter (counter_at counters offer.counter)) text
      → IsReport users engine own counters w refusal (Some text)
  missing : (Offers w refusal → ⊥) → IsReport users engine own counters w refusal None

-- what an agent, as the refusal left it, reports; nothing for out of memory
abbrev pub AgentReports : AgentState → ℕ → List ℕ → Option Refusal → Option (List ℕ) → Type 0
AgentReports agent now w None report = report ≡ None
AgentReports agent now w (Some refusal) report = IsReport agent.users agent.engine
    (own_pair agent.boots agent.started now) agent.counters w refusal report

-- the least that a sender may say it can take, in octets (RFC 3412, section 6.3)
abbrev pub least_max_size : ℕ
least_max_size = 484

-- the report, if there is one, has no more octets
abbrev pub IsShortReport : Option (Vec ℕ) → Type 0
IsShortReport report = IfSome report (λ v. length v.items ≤ least_max_size)

abbrev pub report_of : Option (Vec ℕ) → Option (List ℕ)
report_of report = option_map (λ v. v.items) report

-- ---- between the functions

-- The PDU, where it can be read, is of the Confirmed Class, and this request-id is copied.
pub record IsCopied (w : List ℕ) (m : Parts) (id : ℤ) : Type 0 where
  pub confirmed : (plain : PlainPdu w m) → is_confirmed plain.pdu.tag ≡ true
  pub is : IsCopiedId w m id

-- what the code keeps of a message that asks for reports
pub record IsAsking (w : List ℕ) (a : ReportedMessage) : Type 0 where
  pub asks : AsksForReport w
  pub id_is : asks.outer.parts.header.id ≡ a.id
  pub user_is : asks.security.fields.user ≡ a.user.now
  pub copied : IsCopiedId w asks.outer.parts a.request_id

abbrev pub reporting_of : List ℕ → BootsAndTime → ℕ → ReportedMessage → ℕ → Sending
reporting_of engine own k a value = reporting engine own a.id a.user.now a.request_id k value
