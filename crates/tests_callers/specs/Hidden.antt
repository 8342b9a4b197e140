-- What a gateway shows of the variables of a device, and asks of it.
--
-- `IsOwnOrSeen`: a variable of a Response without anything that is hidden. `ShowsSeen`: a datagram to a client shows
-- nothing else. `AsksSeen`: a device is asked by a GetRequest only for what an accepted message may see.
-- `KeepsHidden`: both, of what goes out after a history. `HandleKeepsHidden`: the same of the octets in a caller's
-- buffers.
use Rattle.std.specs.Prelude.{◌≡◌, ◌⊎◌, ⊤, ℕ, ℤ, List, [], take, All, Contains, Some}
use Rattle.std.specs.Global.{Vec}
use Rattle.std.specs.List.{HoldsAt}
use Rattle.snmp_msg.specs.Variables.{Variable, variables_of}
use Rattle.snmp_msg.specs.declared.pdu_type.PduType.{PduType}
use Rattle.snmp_msg.specs.declared.pdu_type.PduType.TheVariants.{GetRequest, SetRequest}
use Rattle.vacm_core.specs.Tables.{Tables}
use Rattle.snmp_agent.specs.declared.unhandled.Unhandled.{Unhandled}
use Rattle.snmp_walk.specs.declared.operation.ReadOperation.TheVariants.{GetNext}
use Rattle.snmp_gate.specs.DeviceMessages.{IsAsk, IsRequest}
use Rattle.snmp_gate.specs.Devices.{IsDeviceOf}
use Rattle.snmp_gate.specs.History.{AskedBy, Happening, IsAccepted, MayAskName, told_in}
use Rattle.snmp_gate.specs.Messages.{question_in, seen_in, set_in}
use Rattle.snmp_gate.specs.Question.{Question}
use Rattle.snmp_gate.specs.Said.{Said}
use Rattle.snmp_gate.specs.Replies.{Answering, IsReported, IsSent, Told}
use Rattle.snmp_gate.specs.declared.devices.Device.{Device as DeviceIs}
use Rattle.snmp_gate.specs.declared.gate.Gate.{Gate}
use Rattle.snmp_gate.specs.declared.waiting_message.WaitingMessage.{WaitingMessage}
use Rattle.tests_callers.specs.declared.gateway_handles.HandleOut.{HandleOut}
use Rattle.tests_callers.specs.declared.gateway_handles.HandleOut.TheVariants as out
use Rattle.tests_callers.specs.declared.gateways.Out.{Out}
use Rattle.tests_callers.specs.declared.gateways.Out.TheVariants.{Client, Device, Nothing}

-- the variable is one of the message's own, or its value has no octets, or the device told it so and it is seen
pub data IsOwnOrSeen (Seen : List ℕ → Type 0) (own said : List Variable) (v : Variable) : Type 0 where
  is_own : Contains own v → IsOwnOrSeen Seen own said v
  is_empty : v.content ≡ [] → IsOwnOrSeen Seen own said v
  is_seen : Seen v.name → Contains said v → IsOwnOrSeen Seen own said v

-- the datagram is a report on the message, or a Response with such variables alone
abbrev pub ShowsSeen : Tables → List Happening → ℕ → WaitingMessage → Answering → List ℕ → Type 0
ShowsSeen tables before number m by datagram = (q : Question) → question_in m ≡ Some q
    → ((why : Unhandled) × IsReported by m.kept why datagram)
    ⊎ ((told : Told) × IsSent by m.kept told datagram
    × All (IsOwnOrSeen (seen_in tables q) (variables_of q.list) (told_in number before).variables) told.variables)

-- what a device is asked: values of variables that are seen, or what comes after them, or a Set of what may be set
pub data AsksSeen (tables : Tables) (q : Question) (said : Said) (datagram : List ℕ) (d : DeviceIs)
    : Type 0 where
  gets : (id : ℕ) (vs : List Variable) → IsAsk datagram d.community.items GetRequest id vs
      → All (λ (v : Variable). seen_in tables q v.name) vs → AsksSeen tables q said datagram d
  walks : (type : PduType) (id : ℕ) (second third : ℤ) (vs : List Variable)
      → IsRequest datagram d.community.items type id second third vs
      → All (MayAskName q tables said GetNext) vs → AsksSeen tables q said datagram d
  sets : (community : Vec ℕ) (id : ℕ) (vs : List Variable) → d.write_community ≡ Some community
      → IsAsk datagram community.items SetRequest id vs
      → All (λ (v : Variable). set_in tables q v.name) vs → AsksSeen tables q said datagram d

-- what goes out of this gateway after what happened before
abbrev pub KeepsHidden : Gate → List Happening → Out → Type 0
KeepsHidden gate before (Client to datagram) = (number : ℕ) × (m : WaitingMessage) × (by : Answering)
    × (to ≡ m.client) × IsAccepted before number m
    × ShowsSeen gate.agent.tables before number m by datagram.items
KeepsHidden gate before (Device to datagram) = (number : ℕ) × (q : Question) × AskedBy before number q
    × IsDeviceOf gate.devices.list.items q.context to
    × HoldsAt (AsksSeen gate.agent.tables q (told_in number before) datagram.items) gate.devices.list.items to
KeepsHidden gate before Nothing = ⊤

-- The same of what is in the front of two buffers: the address of a client, and the datagram.
abbrev pub HandleKeepsHidden : Gate → List Happening → HandleOut → List ℕ → List ℕ → Type 0
HandleKeepsHidden gate before (out.Client address octets) to datagrams = (client : Vec ℕ) × (datagram : Vec ℕ)
    × (take address to ≡ client.items) × (take octets datagrams ≡ datagram.items)
    × KeepsHidden gate before (Client client datagram)
HandleKeepsHidden gate before (out.Device device octets) to datagrams = (datagram : Vec ℕ)
    × (take octets datagrams ≡ datagram.items) × KeepsHidden gate before (Device device datagram)
HandleKeepsHidden gate before out.Nothing to datagrams = ⊤
