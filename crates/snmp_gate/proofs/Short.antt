-- An answer without authentication is short.
use Rattle.std.specs.Prelude.{◌≡◌, ◌*◌, ◌≤◌, ℕ, List, [], ◌∷◌, Contains, IfSome, None, Option, Some, length, max}
use Rattle.std.specs.Global.{Vec}
use Rattle.std.proofs.Common.{arith, inl, inr}
use Rattle.snmp_agent.specs.Agent.{AgentState}
use Rattle.snmp_agent.specs.Report.{IsShortReport}
use Rattle.snmp_gate.specs.History.{Happening, accepted, sent}
use Rattle.snmp_gate.specs.Lawful.{AreLawful}
use Rattle.snmp_gate.specs.Limits.{AlwaysKeepsTo, MustBeShort}
use Rattle.snmp_gate.specs.Replies.{Answering, ClientAnswer}
use Rattle.snmp_gate.specs.declared.devices.Device.{Device}
use Rattle.snmp_gate.specs.declared.limits.GateLimits.{GateLimits}
use Rattle.snmp_gate.specs.declared.reply.TheConstants.{SHORT_ANSWER}
use Rattle.snmp_gate.specs.declared.waiting_message.WaitingMessage.{WaitingMessage}
use Rattle.snmp_gate.proofs.Others.{contains_cons}

-- the size that is kept of a message is that of its datagram
size_of : (limits : GateLimits) (devices : List Device) (before : List Happening) (number now : ℕ) (datagram : List ℕ) (message : WaitingMessage) → AlwaysKeepsTo limits devices before → Contains before (accepted number now datagram message)
    → message.size ≡ length datagram
size_of limits devices [] number now datagram message keeps there = absurd (omega (arith, there.1))
size_of limits devices (e ∷ before) number now datagram message keeps there = elim (contains_cons e before (accepted number now datagram message) there) [
  | inl is ↦ own limits devices e before number now datagram message is keeps
  | inr rest ↦ size_of limits devices before number now datagram message keeps.2 rest
]
  where
    own : (limits : GateLimits) (devices : List Device) (e : Happening) (before : List Happening) (number now : ℕ) (datagram : List ℕ) (message : WaitingMessage) → e ≡ accepted number now datagram message → AlwaysKeepsTo limits devices (e ∷ before)
        → message.size ≡ length datagram
    own limits devices e before number now datagram message is keeps =
        let same : AlwaysKeepsTo limits devices (accepted number now datagram message ∷ before) = rw is at keeps in same.1

pub short_answer : (agent : AgentState) (devices : List Device) (limits : GateLimits) (before : List Happening) (number : ℕ) (message : WaitingMessage) (by : Answering) (answer : ClientAnswer) → AreLawful agent devices (sent number message by answer ∷ before)
    → AlwaysKeepsTo limits devices (sent number message by answer ∷ before) → MustBeShort limits message.kept.level
    → (now : ℕ) × (datagram : List ℕ) × Contains before (accepted number now datagram message) × (length answer.datagram ≤ max SHORT_ANSWER (2 * length datagram))
short_answer agent devices limits before number message by answer lawful keeps must =
    let came = lawful.0.mediated.0 in
    let size = size_of limits devices before number came.now came.datagram message keeps.2 came.there in
    let most = keeps.1.short must in
    (came.now, came.datagram, came.there, omega (arith, most, size))

-- a report that each sender can take is short
pub short_report : (report : Option (Vec ℕ)) (size : ℕ) → IsShortReport report → IfSome report (λ v. length v.items ≤ max SHORT_ANSWER (2 * size))
short_report None size short = tt
short_report (Some v) size short = omega (arith, short)
