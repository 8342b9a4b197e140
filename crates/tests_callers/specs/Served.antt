-- Machines that are called one call after another.
--
-- `IsServed`: a gateway that takes what comes at a moment, or sends, goes on any run up to it by just that. `GoesOn`:
-- the same of an originator of notifications.
use Rattle.std.specs.Prelude.{◌≡◌, ◌≤◌, ◌⊎◌, ℕ, List, ◌∷◌}
use Rattle.snmp_gate.specs.Runs.{Event, IsRun, client_comes, device_comes, finds_no_memory, goes_out, moment_of}
use Rattle.snmp_gate.specs.Waiting.{fresh}
use Rattle.snmp_gate.specs.declared.gate.ClientTaken.{ClientTaken}
use Rattle.snmp_gate.specs.declared.gate.DeviceTaken.{DeviceTaken}
use Rattle.snmp_gate.specs.declared.gate.Gate.{Gate}
use Rattle.snmp_gate.specs.declared.gate.Sent.{Sent}
use Rattle.snmp_forward.specs.Originating as originating
use Rattle.snmp_forward.specs.Originating.{IsOriginatorRun, OriginatorEvent, receives, trap_comes}
use Rattle.snmp_forward.specs.declared.forwarder.TrapTaken.{TrapTaken}
use Rattle.snmp_forward.specs.declared.informs.ReceiverTaken.{ReceiverTaken}
use Rattle.snmp_forward.specs.declared.originator.Originated.{Originated}
use Rattle.snmp_forward.specs.declared.originator.Originator.{Originator}
use Rattle.tests_callers.specs.declared.gateways.Come.{Come}
use Rattle.tests_callers.specs.declared.gateways.Come.TheVariants as come
use Rattle.tests_callers.specs.declared.notifications.Coming.{Coming}
use Rattle.tests_callers.specs.declared.notifications.Coming.TheVariants as coming

-- the event of what comes at this moment, whatever becomes of it
abbrev pub IsEventOf : ℕ → Come → Event → Type 0
IsEventOf now (come.Client from datagram) event = (event ≡ finds_no_memory now)
    ⊎ ((taken : ClientTaken) × (event ≡ client_comes now from.now datagram.now taken))
IsEventOf now (come.Device device datagram) event = (event ≡ finds_no_memory now)
    ⊎ ((taken : DeviceTaken) × (event ≡ device_comes now device datagram.now taken))
IsEventOf now (come.Next salt ask_id) event = (event ≡ finds_no_memory now)
    ⊎ ((what : Sent) × (event ≡ goes_out now (fresh salt ask_id) what))

abbrev pub IsServed : Gate → ℕ → Come → Gate → Type 0
IsServed old now what new = (first : Gate) (events : List Event) → IsRun first events old → moment_of events ≤ now
    → (event : Event) × IsEventOf now what event × (moment_of (event ∷ events) ≡ now)
    × IsRun first (event ∷ events) new

abbrev pub IsOriginatorEventOf : ℕ → Coming → OriginatorEvent → Type 0
IsOriginatorEventOf now (coming.Trap device datagram) event = (event ≡ originating.finds_no_memory)
    ⊎ ((taken : TrapTaken) × (event ≡ trap_comes device datagram.now taken))
IsOriginatorEventOf now (coming.Receiver receiver datagram) event = (event ≡ originating.finds_no_memory)
    ⊎ ((taken : ReceiverTaken) × (event ≡ receives now receiver datagram.now taken))
IsOriginatorEventOf now (coming.Next salt ask_id) event = (event ≡ originating.finds_no_memory)
    ⊎ ((what : Originated) × (event ≡ originating.goes_out now salt ask_id what))

abbrev pub GoesOn : Originator → ℕ → Coming → Originator → Type 0
GoesOn old now what new = (first : Originator) (events : List OriginatorEvent) → IsOriginatorRun first events old
    → (event : OriginatorEvent) × IsOriginatorEventOf now what event × IsOriginatorRun first (event ∷ events) new
