-- Whether a device's answer answers what it was asked, and why not (RFC 3416, sections 4.2.1 to 4.2.3).
--
-- `ReadFits`, `BulkFits`: an answer to a dialogue. `TaskFits`, `WorkFits`: to what a device is asked for a request.
-- `fault_of`: what is said of it. `IsFitTold`: what is said of a datagram. The bindings of an answer with an error
-- don't matter.
use Rattle.std.specs.Prelude.{◌≡◌, ◌⊎◌, ◌<◌, ⊤, ℕ, pos, List, [], Option, Some, None, length, false}
use Rattle.std.specs.List.{HoldsAt}
use Rattle.snmp_msg.specs.Pdu.{PduParts}
use Rattle.snmp_msg.specs.Variables.{variables_of}
use Rattle.snmp_walk.specs.BulkAnswer.{IsBulkFault, IsRead}
use Rattle.snmp_walk.specs.BulkAnswered.{is_next, turns_of}
use Rattle.snmp_walk.specs.Dialogue.{AnswersAll, IsFault, asks_of}
use Rattle.snmp_walk.specs.declared.answer.AnswerFault.{AnswerFault}
use Rattle.snmp_walk.specs.declared.bulk_column.BulkColumn.{BulkColumn}
use Rattle.snmp_walk.specs.declared.bulk_dialogue.BulkDialogue.{BulkDialogue}
use Rattle.snmp_walk.specs.declared.dialogue.Dialogue.{Dialogue}
use Rattle.snmp_gate.specs.DeviceMessages.{IsDeviceAnswer}
use Rattle.snmp_gate.specs.Messages.{question_in, seen_in}
use Rattle.snmp_gate.specs.Question.{Question}
use Rattle.snmp_gate.specs.Taking.{WaitsFor}
use Rattle.snmp_gate.specs.declared.gate.DeviceTaken.{DeviceTaken}
use Rattle.snmp_gate.specs.declared.gate.DeviceTaken.TheVariants.{Answers}
use Rattle.snmp_gate.specs.declared.gate.Gate.{Gate}
use Rattle.snmp_gate.specs.declared.onward.AnswerTaken.{AnswerTaken}
use Rattle.snmp_gate.specs.declared.onward.AnswerTaken.TheVariants as taken
use Rattle.snmp_gate.specs.declared.requests.WaitingRequest.{WaitingRequest}
use Rattle.snmp_gate.specs.declared.set_answer.ResponseStatus.{ResponseStatus}
use Rattle.snmp_gate.specs.declared.task.Task.{Task}
use Rattle.snmp_gate.specs.declared.task.Task.TheVariants as task
use Rattle.snmp_gate.specs.declared.waiting_message.WaitingMessage.{WaitingMessage}
use Rattle.snmp_gate.specs.declared.work.Work.{Work}
use Rattle.snmp_gate.specs.declared.work.Work.TheVariants.{Open, Ends}

-- error-status says that there is none
abbrev pub HasNoError : PduParts → Type 0
HasNoError answer = answer.second ≡ pos 0

-- to a GetRequest or a GetNextRequest: it has an error, or each of its bindings answers what was asked in its place; or
-- this is the first that doesn't
abbrev pub ReadFits : Dialogue → PduParts → Option AnswerFault → Type 0
ReadFits d answer None =
    (¬ HasNoError answer) ⊎ AnswersAll (asks_of d.columns.items) (variables_of answer.list)
ReadFits d answer (Some fault) = HasNoError answer
    × IsFault (asks_of d.columns.items) (variables_of answer.list) fault

-- it has nothing, which says that a GetBulkRequest asks for too much
abbrev pub HasNoBindings : BulkDialogue → PduParts → Type 0
HasNoBindings d answer = (is_next d.ask ≡ false) × (variables_of answer.list ≡ [])

-- each of its bindings is the next one of the column whose turn it is
abbrev pub IsReadBy : (List ℕ → Type 0) → BulkDialogue → PduParts → Type 0
IsReadBy Seen d answer = (columns : List BulkColumn)
    × IsRead Seen (is_next d.ask) d.columns.items (turns_of d) (variables_of answer.list) columns

-- the same for a GetBulkRequest
abbrev pub BulkFits : (List ℕ → Type 0) → BulkDialogue → PduParts → Option AnswerFault → Type 0
BulkFits Seen d answer None = (¬ HasNoError answer) ⊎ (HasNoBindings d answer ⊎ IsReadBy Seen d answer)
BulkFits Seen d answer (Some fault) = HasNoError answer × (¬ HasNoBindings d answer)
    × IsBulkFault Seen (is_next d.ask) d.columns.items (turns_of d) (variables_of answer.list) fault

-- to a SetRequest any answer fits
abbrev pub TaskFits : (List ℕ → Type 0) → Task → PduParts → Option AnswerFault → Type 0
TaskFits Seen (task.Read operation d) answer fault = ReadFits d answer fault
TaskFits Seen (task.Bulk by d) answer fault = BulkFits Seen d answer fault
TaskFits Seen task.Set answer fault = fault ≡ None

abbrev pub WorkFits : (List ℕ → Type 0) → Work → PduParts → Option AnswerFault → Type 0
WorkFits Seen (Open o) answer fault = TaskFits Seen o.task.task answer fault
WorkFits Seen (Ends e) answer fault = fault ≡ None

abbrev pub fault_of : AnswerTaken → Option AnswerFault
fault_of (taken.Unfit fault) = Some fault
fault_of _ = None

abbrev pub FitsRequest : Gate → ℕ → ℕ → ℕ → PduParts → Option AnswerFault → WaitingRequest WaitingMessage Work → Type 0
FitsRequest gate device id number answer fault r = (r.number ≡ number) × WaitsFor device id r.work
    × ((q : Question) → question_in r.first ≡ Some q → WorkFits (seen_in gate.agent.tables q) r.work answer fault)

-- the datagram is an answer to what the device was asked for the request of this number, and says this; it fits, or
-- this is why not
pub record IsFitOf (gate : Gate) (device : ℕ) (datagram : List ℕ) (number : ℕ) (says : ResponseStatus)
    (fault : Option AnswerFault) : Type 0 where
  pub community : List ℕ
  pub answer : PduParts
  pub is_answer : IsDeviceAnswer datagram community answer
  pub says_is : (says.status ≡ answer.second) × (says.index ≡ answer.third)
  pub id : ℕ
  pub id_is : answer.id ≡ pos id
  pub place : ℕ
  pub within : place < length gate.requests.list.items
  pub fits : HoldsAt (FitsRequest gate device id number answer fault) gate.requests.list.items place

abbrev pub IsFitTold : Gate → ℕ → List ℕ → DeviceTaken → Type 0
IsFitTold gate device datagram (Answers number says fault hidden) = IsFitOf gate device datagram number says fault
IsFitTold gate device datagram _ = ⊤
