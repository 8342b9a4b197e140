-- What goes out of what becomes of a message.
--
-- `RepliesTo`, `LeavesBy`: what becomes of a message of a request that ends. `IsSentBy`: what is sent of it.
-- `IsOpenAt` and `IsAskedAt`: the request at a place. `MayAskAt`: a datagram that may be sent for it. `SetsAsked`: its
-- device is asked.
use Rattle.std.specs.Prelude.{◌≡◌, ◌⊎◌, ℕ, false, true, List, Option, Some, None, slice_index_or, slice_set}
use Rattle.std.specs.Global.{Vec}
use Rattle.snmp_agent.specs.Agent.{AgentState}
use Rattle.snmp_agent.specs.declared.unhandled.Unhandled.TheVariants.{UnavailableContexts}
use Rattle.snmp_incoming.specs.Outcome.{Given}
use Rattle.std.specs.List.{HoldsAt}
use Rattle.vacm_core.specs.Tables.{Tables}
use Rattle.snmp_gate.specs.History.{IsAskFor}
use Rattle.snmp_gate.specs.Limits.{IsLimit}
use Rattle.snmp_gate.specs.Messages.{question_in}
use Rattle.snmp_gate.specs.Noting.{AsksSet}
use Rattle.snmp_gate.specs.Question.{Question}
use Rattle.snmp_gate.specs.Replies.{IsReplyTo}
use Rattle.snmp_gate.specs.Said.{Said}
use Rattle.snmp_gate.specs.Time.{once_more, times_asked}
use Rattle.snmp_gate.specs.Unanswered.{IsLeftBy}
use Rattle.snmp_gate.specs.Work.{EndingStands, IsWhyOf, TaskStands, again_of, request_of_task}
use Rattle.snmp_gate.specs.declared.gate.Sent.{Sent}
use Rattle.snmp_gate.specs.declared.gate.Sent.TheVariants.{ToClient, Unanswered}
use Rattle.snmp_gate.specs.declared.reply.Reply.{Reply}
use Rattle.snmp_gate.specs.declared.set_answer.ResponseStatus.{ResponseStatus}
use Rattle.snmp_gate.specs.declared.reply.Reply.TheVariants as reply
use Rattle.snmp_gate.specs.declared.devices.Device.{Device}
use Rattle.snmp_gate.specs.declared.limits.GateLimits.{GateLimits}
use Rattle.snmp_gate.specs.declared.requests.WaitingRequest.{WaitingRequest}
use Rattle.snmp_gate.specs.declared.waiting_message.WaitingMessage.{WaitingMessage}
use Rattle.snmp_gate.specs.declared.work.EndedBy.{EndedBy}
use Rattle.snmp_gate.specs.declared.work.RequestEnd.{RequestEnd}
use Rattle.snmp_gate.specs.declared.work.RequestEnd.TheVariants as ending
use Rattle.snmp_gate.specs.declared.work.OpenRequest.{OpenRequest}
use Rattle.snmp_gate.specs.declared.work.Work.{Work}
use Rattle.snmp_gate.specs.declared.work.Work.TheVariants.{Open, Ends}

abbrev pub RepliesTo : AgentState → ℕ → List ℕ → Question → Said → Given → Work → Reply → Type 0
RepliesTo agent seconds salt q said g (Ends e) r = EndingStands agent.tables q said e
    → IsReplyTo (record { agent = agent; now = seconds; salt = salt }) agent.tables q said (again_of e) (IsWhyOf e) g r
RepliesTo agent seconds salt q said g (Open o) r = ⊥

-- what becomes of a message of a request that ends, and has no answer
abbrev pub LeavesBy : GateLimits → AgentState → ℕ → List ℕ → WaitingMessage → Work → Reply → Type 0
LeavesBy limits agent seconds salt m (Ends e) r = (limit : ℕ)
    × IsLimit limits m.kept.level m.kept.max_size m.size limit
    × IsLeftBy (record { agent = agent; now = seconds; salt = salt }) limit m.kept e r
LeavesBy limits agent seconds salt m (Open o) r = ⊥

-- what the Response to a message of this request says again
abbrev pub again_in : Work → Option ResponseStatus
again_in (Ends e) = again_of e
again_in (Open o) = None

abbrev pub IsSentBy : ℕ → WaitingMessage → EndedBy → Reply → Sent → Type 0
IsSentBy number message ended (reply.Responds says datagram) sent =
    sent ≡ ToClient number message (Some says) datagram ended
IsSentBy number message ended (reply.Reports datagram) sent = sent ≡ ToClient number message None datagram ended
IsSentBy number message ended reply.Nothing sent = sent ≡ Unanswered number message None ended
IsSentBy number message ended reply.SilentDrop sent = sent ≡ Unanswered number message None ended
IsSentBy number message ended (reply.Refused why) sent = sent ≡ Unanswered number message (Some why) ended

abbrev pub Requests : Type 0
Requests = List (WaitingRequest WaitingMessage Work)

-- the request at the place has this number, and its device is to be asked, or asked
abbrev pub IsOpenAt : Requests → ℕ → ℕ → ℕ → Type 0
IsOpenAt rs place device number = HoldsAt (λ (r : WaitingRequest WaitingMessage Work). (r.number ≡ number)
    × ((o : OpenRequest) × (r.work ≡ Open o) × (o.device ≡ device))) rs place

-- it is asked with this request-id
abbrev pub IsAskedAt : Requests → ℕ → ℕ → Type 0
IsAskedAt rs place id = HoldsAt (λ (r : WaitingRequest WaitingMessage Work).
    (o : OpenRequest) × (r.work ≡ Open o) × (o.asked ≡ Some id)) rs place

-- its device isn't asked now
abbrev pub IsUnasked : Work → Type 0
IsUnasked (Open o) = o.asked ≡ None
IsUnasked (Ends e) = ⊥

-- by the datagram it may be asked with this request-id
abbrev pub MayAskOf : Tables → List Device → ℕ → ℕ → Vec ℕ → WaitingRequest WaitingMessage Work → Type 0
MayAskOf tables devices device id datagram r = (o : OpenRequest) (q : Question) (told : Said)
    → r.work ≡ Open o → question_in r.first ≡ Some q → TaskStands tables q told o.task.task
    → HoldsAt (λ (d : Device). IsAskFor tables d q told id (request_of_task q o.task.task) datagram.items) devices
    device

abbrev pub MayAskAt : Tables → List Device → Requests → ℕ → ℕ → ℕ → Vec ℕ → Type 0
MayAskAt tables devices rs place device id datagram = HoldsAt (MayAskOf tables devices device id datagram) rs place

-- the request at the place is asked with this request-id now, and nothing else changes
pub record SetsAsked (old : Requests) (place id : ℕ) (new : Requests) : Type 0 where
  pub request : WaitingRequest WaitingMessage Work
  pub is : request ≡ slice_index_or old place request
  pub work : Work
  pub asked : (o : OpenRequest) → request.work ≡ Open o
      → (a : OpenRequest) × (work ≡ Open a) × (a.task ≡ o.task) × (a.device ≡ o.device) × (a.asked ≡ Some id)
      × (a.timer.began ≡ o.timer.began)
      × (times_asked a.timer.turn ≡ once_more (times_asked o.timer.turn))
  pub new_is : new ≡ slice_set old place (record {
    number = request.number;
    first = request.first;
    others = request.others;
    work = work;
  })

-- how a request ends that is given up: in silence if it is a Set, or if nothing is reported of devices that don't
-- answer; else its context is unavailable (RFC 3413, section 3.2)
abbrev pub IsGivenUp : GateLimits → Work → RequestEnd → Type 0
IsGivenUp limits w ending.Silent = (limits.report_unreachable ≡ false) ⊎ AsksSet w
IsGivenUp limits w (ending.Unhandled why) = (why ≡ UnavailableContexts) × (limits.report_unreachable ≡ true)
    × (¬ AsksSet w)
IsGivenUp limits w _ = ⊥
