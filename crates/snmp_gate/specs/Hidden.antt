-- How many bindings of a device's answer the sender of a message may not see (RFC 3415, section 3).
--
-- `IsHiddenCount`: the number of the variables whose names aren't in a view. `TaskHides`, `WorkHides`: that of the
-- bindings of an answer to what a device is asked for a request. `IsHiddenTold`: what is said of a datagram. The
-- bindings of an answer to a SetRequest aren't counted: a client learns only whether the Set was done.
use Rattle.std.specs.Prelude.{◌≡◌, ◌⊎◌, ◌<◌, ◌+◌, ⊤, ℕ, pos, List, [], ◌∷◌, Some, length}
use Rattle.std.specs.List.{HoldsAt}
use Rattle.snmp_msg.specs.Pdu.{PduParts}
use Rattle.snmp_msg.specs.Variables.{Variable, variables_of}
use Rattle.snmp_gate.specs.DeviceMessages.{IsDeviceAnswer}
use Rattle.snmp_gate.specs.Messages.{question_in, seen_in}
use Rattle.snmp_gate.specs.Question.{Question}
use Rattle.snmp_gate.specs.Taking.{WaitsFor}
use Rattle.snmp_gate.specs.declared.gate.DeviceTaken.{DeviceTaken}
use Rattle.snmp_gate.specs.declared.gate.DeviceTaken.TheVariants.{Answers}
use Rattle.snmp_gate.specs.declared.gate.Gate.{Gate}
use Rattle.snmp_gate.specs.declared.requests.WaitingRequest.{WaitingRequest}
use Rattle.snmp_gate.specs.declared.task.Task.{Task}
use Rattle.snmp_gate.specs.declared.task.Task.TheVariants as task
use Rattle.snmp_gate.specs.declared.waiting_message.WaitingMessage.{WaitingMessage}
use Rattle.snmp_gate.specs.declared.work.Work.{Work}
use Rattle.snmp_gate.specs.declared.work.Work.TheVariants.{Open, Ends}

-- so many of the variables have names that aren't in the view
abbrev pub IsHiddenCount : (List ℕ → Type 0) → List Variable → ℕ → Type 0
IsHiddenCount Seen [] n = n ≡ 0
IsHiddenCount Seen (v ∷ vs) n = (Seen v.name × IsHiddenCount Seen vs n)
    ⊎ ((¬ Seen v.name) × ((fewer : ℕ) × (n ≡ fewer + 1) × IsHiddenCount Seen vs fewer))

-- so many bindings of the answer to what a device is asked
abbrev pub TaskHides : (List ℕ → Type 0) → Task → PduParts → ℕ → Type 0
TaskHides Seen (task.Read operation d) answer n = IsHiddenCount Seen (variables_of answer.list) n
TaskHides Seen (task.Bulk by d) answer n = IsHiddenCount Seen (variables_of answer.list) n
TaskHides Seen task.Set answer n = n ≡ 0

abbrev pub WorkHides : (List ℕ → Type 0) → Work → PduParts → ℕ → Type 0
WorkHides Seen (Open o) answer n = TaskHides Seen o.task.task answer n
WorkHides Seen (Ends e) answer n = n ≡ 0

abbrev pub HidesInRequest : Gate → ℕ → ℕ → ℕ → PduParts → ℕ → WaitingRequest WaitingMessage Work → Type 0
HidesInRequest gate device id number answer n r = (r.number ≡ number) × WaitsFor device id r.work
    × ((q : Question) → question_in r.first ≡ Some q → WorkHides (seen_in gate.agent.tables q) r.work answer n)

-- the datagram is an answer to what the device was asked for the request of this number, and so many of its bindings
-- are hidden from the message that asks
pub record IsHiddenOf (gate : Gate) (device : ℕ) (datagram : List ℕ) (number hidden : ℕ) : Type 0 where
  pub community : List ℕ
  pub answer : PduParts
  pub is_answer : IsDeviceAnswer datagram community answer
  pub id : ℕ
  pub id_is : answer.id ≡ pos id
  pub place : ℕ
  pub within : place < length gate.requests.list.items
  pub hides : HoldsAt (HidesInRequest gate device id number answer hidden) gate.requests.list.items place

abbrev pub IsHiddenTold : Gate → ℕ → List ℕ → DeviceTaken → Type 0
IsHiddenTold gate device datagram (Answers number says fault hidden) = IsHiddenOf gate device datagram number hidden
IsHiddenTold gate device datagram _ = ⊤
