-- What is known of a request while it waits, and of how it ends.
--
-- `told`: all that the device's answers for the request say. `SaysAll`: it has all that one of them says.
-- `TaskStands`: what a device is asked for a request, and what is known of it. `TaskHas`: what of it is known when the
-- device has answered. `request_of_task`: the request. `EndingStands`: how it ends. `IsWhyOf`: why it has a Report.
-- `OnwardStands`: how it goes on. `most_repetitions`, `RepeatsAtMost`: for how many repetitions a device is asked.
use Rattle.std.specs.Prelude.{◌≡◌, ◌≢◌, ◌≤◌, ⊤, ℕ, ℤ, Bool, [], All, Contains, None, Option, Some, length, true}
use Rattle.std.specs.Ordering.{int_eq}
use Rattle.snmp_ber.specs.declared.number.TheConstants.{MAX_INTEGER32}
use Rattle.snmp_msg.specs.Pdu.{pdu_of}
use Rattle.snmp_msg.specs.PduTypes.{pdu_tag}
use Rattle.snmp_msg.specs.Variables.{Variable, variables_of}
use Rattle.snmp_msg.specs.declared.pdu.Pdu.{Pdu}
use Rattle.snmp_msg.specs.declared.pdu_type.PduType.TheVariants.{GetBulkRequest, SetRequest}
use Rattle.vacm_core.specs.Tables.{Tables}
use Rattle.snmp_agent.specs.declared.unhandled.Unhandled.{Unhandled}
use Rattle.snmp_responder.specs.Instrumentation.{Known}
use Rattle.snmp_walk.specs.BulkAsk.{IsAskOf}
use Rattle.snmp_walk.specs.BulkDialogue.{BulkAllStand, IsCountOf, bulk_requests, bulk_requests_of}
use Rattle.snmp_walk.specs.Dialogue.{AllStand, requests, requests_of}
use Rattle.snmp_walk.specs.declared.bulk_ask.BulkAsk.{BulkAsk}
use Rattle.snmp_walk.specs.declared.bulk_dialogue.BulkDialogue.{BulkDialogue}
use Rattle.snmp_walk.specs.declared.dialogue.Dialogue.{Dialogue}
use Rattle.snmp_walk.specs.declared.operation.ReadOperation.{ReadOperation}
use Rattle.gateway_laws.specs.Device.{IsDevice}
use Rattle.gateway_laws.specs.BulkTracks.{AllBulkTrack}
use Rattle.gateway_laws.specs.Requests.{RequestPdu}
use Rattle.gateway_laws.specs.Tracks.{AllTrack}
use Rattle.snmp_gate.specs.Messages.{seen_in, set_in}
use Rattle.snmp_gate.specs.Question.{Question}
use Rattle.snmp_gate.specs.ReadErrors.{IsReadError}
use Rattle.snmp_gate.specs.ReadAsks.{bulk_request_by, plain_request, read_request, read_type}
use Rattle.snmp_gate.specs.Said.{AreTrue, IsSetStatus, IsUnasked, Said}
use Rattle.snmp_gate.specs.declared.onward.Onward.{Onward}
use Rattle.snmp_gate.specs.declared.onward.Onward.TheVariants.{Asks, Ends}
use Rattle.snmp_gate.specs.declared.set_answer.ResponseStatus.{ResponseStatus}
use Rattle.snmp_gate.specs.declared.set_answer.TheConstants.{NO_ERROR, NO_SUCH_NAME}
use Rattle.snmp_gate.specs.declared.onward.TheConstants.{END_OF_MIB_VIEW}
use Rattle.snmp_gate.specs.declared.work.RequestEnd.{RequestEnd}
use Rattle.snmp_gate.specs.declared.work.RequestEnd.TheVariants as ending
use Rattle.snmp_gate.specs.declared.task.Task.{Task}
use Rattle.snmp_gate.specs.declared.task.Task.TheVariants as task

-- the name of the variable, with endOfMibView
abbrev pub end_of : Variable → Variable
end_of v = record { name = v.name; tag = END_OF_MIB_VIEW; content = [] }

-- it is noSuchName, which is a device of version-1's word for the end of its variables
abbrev pub says_no_such_name : ℤ → Bool
says_no_such_name status = int_eq status NO_SUCH_NAME

-- the list has all that the answer to this request says: its bindings; and where it says noSuchName, of each name that
-- it was asked that there is none after it
pub record SaysAll (asked : RequestPdu) (answer : Pdu) (told : Said) : Type 0 where
  pub bindings : All (Contains told.variables) (variables_of answer.list.now)
  pub ends : says_no_such_name answer.second ≡ true
      → All (λ (v : Variable). Contains told.variables (end_of v)) asked.variables
  pub exchange : Contains told.exchanges (record { asked = asked; answer = pdu_of answer })

-- the dialogue is one for a GetRequest or a GetNextRequest that asks this; and where each answer is that of a device
-- with some variables, it has come so far over these
pub record ReadStands (tables : Tables) (q : Question) (told : Said) (operation : ReadOperation) (d : Dialogue)
    : Type 0 where
  pub tag : q.tag ≡ pdu_tag (read_type operation)
  pub requests_are : requests d ≡ requests_of operation (variables_of q.list)
  pub stand : AllStand (seen_in tables q) told.variables d
  pub tracks : (device : Known) → IsDevice device → AreTrue device told
      → AllTrack device (seen_in tables q) d.columns.items

-- the dialogue is one for a GetBulkRequest that asks this; and where each answer is that of a device with some
-- variables, it has come so far over these
pub record BulkStandsFor (tables : Tables) (q : Question) (told : Said) (d : BulkDialogue) : Type 0 where
  pub tag : q.tag ≡ pdu_tag GetBulkRequest
  pub first : IsCountOf q.second d.non_repeaters
  pub most : IsCountOf q.third d.max_repetitions
  pub requests_are : bulk_requests d ≡ bulk_requests_of d.non_repeaters d.max_repetitions (variables_of q.list)
  -- so few that their number can stand in a PDU
  pub few : length (variables_of q.list) ≤ MAX_INTEGER32
  pub stand : BulkAllStand (seen_in tables q) told.variables d
  pub tracks : (device : Known) → IsDevice device → AreTrue device told
      → AllBulkTrack device (seen_in tables q) d.columns.items

-- its device is asked in this way, for no more repetitions than it may be
pub record IsAskedBy (d : BulkDialogue) (by : BulkAsk) : Type 0 where
  pub ask : d.ask ≡ by
  pub repetitions : ℕ
  pub few : repetitions ≤ d.repetitions
  pub columns : IsAskOf d.non_repeaters repetitions d.columns.items by

pub record BulkAskStands (tables : Tables) (q : Question) (told : Said) (by : BulkAsk) (d : BulkDialogue) : Type 0 where
  pub dialogue : BulkStandsFor tables q told d
  pub asked : IsAskedBy d by

-- a SetRequest asks this, and each of its variables may be set
pub record SetStands (tables : Tables) (q : Question) : Type 0 where
  pub tag : q.tag ≡ pdu_tag SetRequest
  pub may : All (λ (v : Variable). set_in tables q v.name) (variables_of q.list)

-- what a device is asked, and what is known of it
abbrev pub TaskStands : Tables → Question → Said → Task → Type 0
TaskStands tables q told (task.Read operation d) = ReadStands tables q told operation d
TaskStands tables q told (task.Bulk by d) = BulkAskStands tables q told by d
TaskStands tables q told task.Set = SetStands tables q

-- what is known of it when the device has answered
abbrev pub TaskHas : Tables → Question → Said → Task → Type 0
TaskHas tables q told (task.Read operation d) = ReadStands tables q told operation d
TaskHas tables q told (task.Bulk by d) = BulkStandsFor tables q told d
TaskHas tables q told task.Set = SetStands tables q

-- for how many repetitions a device is asked at most, and may be asked later
abbrev pub most_repetitions : Task → ℕ
most_repetitions (task.Bulk by d) = d.repetitions
most_repetitions _ = 0

-- what a device is asked
abbrev pub request_of_task : Question → Task → RequestPdu
request_of_task q (task.Read operation d) = read_request operation d
request_of_task q (task.Bulk by d) = bulk_request_by by d
request_of_task q task.Set = plain_request SetRequest (variables_of q.list)

-- a Response with the request's own bindings has noError only for a SetRequest, and for that what its device said, or
-- what it says again
pub record IsOwnStatus (tables : Tables) (q : Question) (told : Said) (again : Option ResponseStatus)
    (says : ResponseStatus) : Type 0 where
  pub no_error : says.status ≡ NO_ERROR → q.tag ≡ pdu_tag SetRequest
  pub set : q.tag ≡ pdu_tag SetRequest → IsSetStatus q told again says
  pub read : q.tag ≢ pdu_tag SetRequest → IsReadError tables q told says

-- how a request ends
abbrev pub EndingStands : Tables → Question → Said → RequestEnd → Type 0
EndingStands tables q told (ending.Columns whole) =
    (operation : ReadOperation) × ReadStands tables q told operation whole.dialogue
EndingStands tables q told (ending.Front d) = BulkStandsFor tables q told d
EndingStands tables q told (ending.Own says) = IsOwnStatus tables q told None says
EndingStands tables q told (ending.RoundsUsedUp says) = IsOwnStatus tables q told None says
EndingStands tables q told (ending.Repeated says) = (q.tag ≡ pdu_tag SetRequest) × IsUnasked told
EndingStands tables q told (ending.Unhandled why) = ⊤
EndingStands tables q told ending.Silent = ⊤

-- how a request goes on
abbrev pub OnwardStands : Tables → Question → Said → Onward → Type 0
OnwardStands tables q told (Asks named) = TaskStands tables q told named.task
OnwardStands tables q told (Ends e) = EndingStands tables q told e

-- if it goes on, its device is asked for so many repetitions at most
abbrev pub RepeatsAtMost : ℕ → Onward → Type 0
RepeatsAtMost most (Asks named) = most_repetitions named.task ≤ most
RepeatsAtMost most (Ends e) = ⊤

-- what its Response says again
abbrev pub again_of : RequestEnd → Option ResponseStatus
again_of (ending.Repeated says) = Some says
again_of _ = None

-- a Report on it is for this
abbrev pub IsWhyOf : RequestEnd → Unhandled → Type 0
IsWhyOf (ending.Unhandled why) other = other ≡ why
IsWhyOf _ other = ⊥

-- it doesn't end by what was told before
abbrev pub IsToldFirst : RequestEnd → Type 0
IsToldFirst (ending.Repeated says) = ⊥
IsToldFirst _ = ⊤

-- its device isn't asked a Set, and it doesn't end by what was told before
abbrev pub AsksNoSet : Onward → Type 0
AsksNoSet (Asks named) = named.task ≢ task.Set
AsksNoSet (Ends e) = IsToldFirst e
