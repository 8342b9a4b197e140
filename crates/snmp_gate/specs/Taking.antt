-- What a device's answer leaves of a request.
--
-- `WaitsFor`: the request's device is asked with a request-id. `WorkAfter`: what the request is behind the answer.
-- `AnswerPlace`: for which request a device was asked with an answer's request-id. `WorkSaysSame`: a request stays what
-- it was. `AllWorkSaysSame`: all requests do. `EndsAsSaid`: a SetRequest ends by what its device's answer says.
use Rattle.std.specs.Prelude.{◌≡◌, ◌≢◌, ◌<◌, ◌≤◌, ℕ, pos, List, Some, None, length}
use Rattle.std.specs.Global.{Vec}
use Rattle.std.specs.List.{AllZip, HoldsAt}
use Rattle.snmp_msg.specs.declared.pdu.Pdu.{Pdu}
use Rattle.vacm_core.specs.Tables.{Tables}
use Rattle.snmp_walk.specs.BulkAnswered.{DialogueSaysSame}
use Rattle.snmp_walk.specs.BulkDialogue.{bulk_requests}
use Rattle.snmp_walk.specs.declared.bulk_dialogue.BulkDialogue.{BulkDialogue}
use Rattle.snmp_gate.specs.Ends.{IsOutcomeOf}
use Rattle.snmp_gate.specs.Groups.{Group}
use Rattle.snmp_gate.specs.Question.{Question}
use Rattle.snmp_gate.specs.Said.{Said}
use Rattle.snmp_gate.specs.Work.{EndingStands, TaskStands, most_repetitions}
use Rattle.snmp_gate.specs.declared.devices.Device.{Device}
use Rattle.snmp_gate.specs.declared.requests.WaitingRequest.{WaitingRequest}
use Rattle.snmp_gate.specs.declared.work.RequestEnd.TheVariants as ending
use Rattle.snmp_gate.specs.declared.task.Task.{Task}
use Rattle.snmp_gate.specs.declared.task.Task.TheVariants as task
use Rattle.snmp_gate.specs.declared.waiting_message.WaitingMessage.{WaitingMessage}
use Rattle.snmp_gate.specs.declared.work.OpenRequest.{OpenRequest}
use Rattle.snmp_gate.specs.declared.work.Work.{Work}
use Rattle.snmp_gate.specs.declared.work.Work.TheVariants.{Open, Ends}

abbrev pub WaitsFor : ℕ → ℕ → Work → Type 0
WaitsFor device id (Open o) = (o.device ≡ device) × (o.asked ≡ Some id)
WaitsFor device id (Ends e) = ⊥

-- the request of the same device is to be asked more, for no more repetitions, or it ends
abbrev pub WorkAfter : Tables → Question → Said → OpenRequest → Work → Type 0
WorkAfter tables q told old (Open new) = TaskStands tables q told new.task.task × (new.device ≡ old.device)
    × (new.asked ≡ None) × (new.task.task ≢ task.Set) × (new.timer.began ≡ old.timer.began)
    × (most_repetitions new.task.task ≤ most_repetitions old.task.task)
WorkAfter tables q told old (Ends e) = EndingStands tables q told e

-- the community by which a device is asked this
abbrev pub IsCommunityOfTask : Device → List ℕ → Task → Type 0
IsCommunityOfTask d community (task.Read operation dialogue) = community ≡ d.community.items
IsCommunityOfTask d community (task.Bulk by dialogue) = community ≡ d.community.items
IsCommunityOfTask d community task.Set =
    (write : Vec ℕ) × (d.write_community ≡ Some write) × (community ≡ write.items)

abbrev pub IsCommunityOfWork : Device → List ℕ → Work → Type 0
IsCommunityOfWork d community (Open o) = IsCommunityOfTask d community o.task.task
IsCommunityOfWork d community (Ends e) = ⊥

-- the answer has this request-id, and the device is asked with it for the request at this place, by the answer's
-- community
pub record AnswerPlace (devices : List Device) (requests : List (WaitingRequest WaitingMessage Work)) (device : ℕ)
    (community : List ℕ) (answer : Pdu) (id place : ℕ) : Type 0 where
  pub id_is : answer.id ≡ pos id
  pub within : place < length requests
  pub waits : HoldsAt (λ (r : WaitingRequest WaitingMessage Work). WaitsFor device id r.work) requests place
  pub pays : HoldsAt (λ (r : WaitingRequest WaitingMessage Work).
      HoldsAt (λ (d : Device). IsCommunityOfWork d community r.work) devices device) requests place

-- ---- where memory runs out, a request stays what it was

-- the dialogue says the same
pub record BulkSaysSame (old new : BulkDialogue) : Type 0 where
  pub says : DialogueSaysSame old new
  pub requests : bulk_requests new ≡ bulk_requests old

-- the device is asked the same, and the same is known of it
abbrev pub TaskSaysSame : Task → Task → Type 0
TaskSaysSame (task.Bulk by old) (task.Bulk other new) = (other ≡ by) × BulkSaysSame old new
TaskSaysSame old new = new ≡ old

-- the request of the same device is in the same place
pub record OpenSaysSame (old new : OpenRequest) : Type 0 where
  pub device : new.device ≡ old.device
  pub timer : new.timer ≡ old.timer
  pub asked : new.asked ≡ old.asked
  pub task : TaskSaysSame old.task.task new.task.task

abbrev pub WorkSaysSame : Work → Work → Type 0
WorkSaysSame (Open old) (Open new) = OpenSaysSame old new
WorkSaysSame old new = new ≡ old

abbrev pub AllWorkSaysSame : List (Group WaitingMessage Work) → List (Group WaitingMessage Work) → Type 0
AllWorkSaysSame old new =
    AllZip (λ (before after : Group WaitingMessage Work). WorkSaysSame before.work after.work) old new

-- ---- a SetRequest ends by its device's answer

abbrev pub EndsAsSaid : Pdu → Work → Type 0
EndsAsSaid answer (Ends (ending.Own says)) = IsOutcomeOf answer says
EndsAsSaid answer _ = ⊥
