-- Calls on the handle of a gateway, one after another, and what the gateway in it gets and sends by them.
--
-- `Call`: a call, its answer, and the handle that it leaves. `HaveRun`: calls on a handle, the latest first, where
-- moments don't go back. `held_after`: the handle that they leave. `AreEventsOf`: the events of its gateway, call by
-- call, and that each call answers and leaves to be sent what its event is.
use Rattle.std.specs.Prelude.{◌≡◌, ◌≤◌, ◌⊎◌, ⊤, ℕ, List, [], ◌∷◌, Result, Err}
use Rattle.snmp_message.specs.declared.refusal.Refusal.TheVariants.{OutOfMemory}
use Rattle.snmp_gate.specs.Runs.{Event, client_comes, device_comes, finds_no_memory, goes_out}
use Rattle.snmp_gate.specs.Waiting.{fresh}
use Rattle.snmp_gate.specs.declared.gate.ClientTaken.{ClientTaken}
use Rattle.snmp_gate.specs.declared.gate.DeviceTaken.{DeviceTaken}
use Rattle.snmp_gate.specs.declared.gate.Sent.{Sent}
use Rattle.snmp_handles.specs.declared.fault.CallFault.{CallFault}
use Rattle.snmp_handles.specs.declared.fault.CallFault.TheVariants.{Refused}
use Rattle.gate_handles.specs.Gates.{GateHeld, IsQuiet, SendsNext, TakesClient, TakesDevice}
use Rattle.gate_handles.specs.Gates.{TellsClient, TellsDevice, TellsSent}
use Rattle.gate_handles.specs.declared.event.GateEvent.{GateEvent}

-- moments are milliseconds
pub data Call : Type 0 where
  took_client : (now : ℕ) (from datagram : List ℕ) (told : Result GateEvent CallFault) (left : GateHeld) → Call
  took_device : (now device : ℕ) (datagram : List ℕ) (told : Result GateEvent CallFault) (left : GateHeld) → Call
  sent_next : (now : ℕ) (salt : List ℕ) (ask_id : ℕ) (told : Result GateEvent CallFault) (left : GateHeld) → Call

-- the moment of the latest call, or 0
abbrev pub latest : List Call → ℕ
latest [] = 0
latest (took_client now from datagram told left ∷ before) = now
latest (took_device now device datagram told left ∷ before) = now
latest (sent_next now salt ask_id told left ∷ before) = now

abbrev pub held_after : GateHeld → List Call → GateHeld
held_after first [] = first
held_after first (took_client now from datagram told left ∷ before) = left
held_after first (took_device now device datagram told left ∷ before) = left
held_after first (sent_next now salt ask_id told left ∷ before) = left

abbrev pub HaveRun : GateHeld → List Call → Type 0
HaveRun first [] = ⊤
HaveRun first (took_client now from datagram told left ∷ before) = HaveRun first before × (latest before ≤ now)
    × TakesClient (held_after first before) now from datagram told left
HaveRun first (took_device now device datagram told left ∷ before) = HaveRun first before × (latest before ≤ now)
    × TakesDevice (held_after first before) now device datagram told left
HaveRun first (sent_next now salt ask_id told left ∷ before) = HaveRun first before × (latest before ≤ now)
    × SendsNext (held_after first before) now salt ask_id told left

-- the call found no memory, and nothing is to be sent
abbrev pub HadNoMemory : ℕ → Result GateEvent CallFault → GateHeld → Event → Type 0
HadNoMemory now told left event = (event ≡ finds_no_memory now) × (told ≡ Err (Refused OutOfMemory)) × IsQuiet left

-- the gateway got and sent this by the call, and the call answers so, and leaves to be sent what goes out
abbrev pub IsEventOf : Call → Event → Type 0
IsEventOf (took_client now from datagram told left) event = ((taken : ClientTaken)
    × (event ≡ client_comes now from datagram taken) × TellsClient taken told left)
    ⊎ HadNoMemory now told left event
IsEventOf (took_device now device datagram told left) event = ((taken : DeviceTaken)
    × (event ≡ device_comes now device datagram taken) × TellsDevice taken told left)
    ⊎ HadNoMemory now told left event
IsEventOf (sent_next now salt ask_id told left) event = ((what : Sent)
    × (event ≡ goes_out now (fresh salt ask_id) what) × TellsSent what told left)
    ⊎ HadNoMemory now told left event

abbrev pub AreEventsOf : List Call → List Event → Type 0
AreEventsOf [] [] = ⊤
AreEventsOf (call ∷ calls) (event ∷ events) = IsEventOf call event × AreEventsOf calls events
AreEventsOf _ _ = ⊥
