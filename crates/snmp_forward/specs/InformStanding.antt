-- What is known of the Informs that wait, by what happened before, and what happens by the calls.
--
-- `InformsStand`: all that is known of them. `ReceiverHappens`, `InformSendHappens`: what happens by a call, and that
-- it is lawful after what happened before. `InformsStay`: what never changes. `AreAsBefore`: nothing changes.
use Rattle.std.specs.Prelude.{◌≡◌, ◌≢◌, ◌⊎◌, ◌<◌, ◌≤◌, ◌-◌, ◌^◌, ◌/◌, ℕ, List, ◌∷◌, All, AllPairs, Contains, false}
use Rattle.std.specs.Prelude.{Bool, is_some, Option, Some, IsSome, Ok, Err, length, remove, slice_get, slice_set, None}
use Rattle.std.specs.FinMap as map
use Rattle.snmp_incoming.specs.Outcome.{Given}
use Rattle.snmp_message.specs.Scoped.{Contexts, ScopedFront}
use Rattle.snmp_msg.specs.Pdu.{PduParts, PduText}
use Rattle.snmp_requests.specs.Answering.{IsHeardOf}
use Rattle.engine_clock.specs.Marks.{pair_at}
use Rattle.snmp_manager.specs.Takes.{Takes}
use Rattle.snmp_manager.specs.Views.{Held}
use Rattle.snmp_manager.specs.declared.pending.Pending.{Pending}
use Rattle.snmp_requests.specs.DeviceRequestRuns.{HearStep}
use Rattle.snmp_requests.specs.Outstanding.{HasNoToken, Outstanding, message_id_of}
use Rattle.snmp_requests.specs.declared.device_request.Heard.{Heard}
use Rattle.snmp_requests.specs.declared.device_request.Heard.TheVariants.{Response, Report}
use Rattle.snmp_requests.specs.declared.device_request.NextStep.{NextStep}
use Rattle.snmp_requests.specs.declared.device_request.NextStep.TheVariants as step
use Rattle.snmp_requests.specs.declared.device_request.SentMessage.{SentMessage}
use Rattle.snmp_requests.specs.declared.device_request.SentMessage.TheVariants.{Discovery}
use Rattle.snmp_requests.specs.declared.outstanding.OutstandingRequest.{OutstandingRequest}
use Rattle.snmp_requests.specs.declared.outstanding.TheConstants.{REQUESTS_LIMIT}
use Rattle.snmp_forward.specs.InformHistory.{Accepted, Asked, InformEnd, InformHappening, InformSetting, IsAccepted}
use Rattle.snmp_forward.specs.InformHistory.{IsHeardIn}
use Rattle.snmp_forward.specs.InformHistory.{IsInformLawful, StandsAt, answers, asked_with, asks, begins, ends}
use Rattle.snmp_forward.specs.InformHistory.{inform_of}
use Rattle.snmp_forward.specs.InformHistory.{known_of, no_token, refused, tried}
use Rattle.snmp_forward.specs.WaitingInforms.{IsAskedAs, IsSentInform}
use Rattle.snmp_forward.specs.declared.exchange.InformLimits.{InformLimits}
use Rattle.snmp_forward.specs.declared.exchange.InformExchange.{InformExchange}
use Rattle.snmp_forward.specs.declared.inform.Inform.{Inform}
use Rattle.snmp_forward.specs.declared.informs.InformSent.{InformSent}
use Rattle.snmp_forward.specs.declared.informs.InformSent.TheVariants as out
use Rattle.snmp_forward.specs.declared.informs.Informs.{Informs}
use Rattle.snmp_forward.specs.declared.informs.ReceiverTaken.{ReceiverTaken}
use Rattle.snmp_forward.specs.declared.informs.ReceiverTaken.TheVariants as taken
use Rattle.snmp_forward.specs.declared.sealing.Sealing.{Sealing}
use Rattle.snmp_forward.specs.declared.waiting_inform.WaitingInform.{WaitingInform}

-- the request that waits is the very message that was sent last for the Inform
pub record IsOwn (before : List InformHappening) (w : WaitingInform) (r : OutstandingRequest) : Type 0 where
  pub message : SentMessage
  pub is_asked : (known_of w.number before).asked ≡ Some (asked_with message r.pending)
  pub is_sent : w.exchange.request.sent ≡ Some message

-- so it is with the request that waits under this token
pub record IsWaitedFor (requests : Outstanding) (before : List InformHappening) (w : WaitingInform) (token : ℕ)
    : Type 0 where
  pub given : token < requests.next
  pub own : (r : OutstandingRequest) → map.get requests.requests (message_id_of token) ≡ Some r
      → r.token ≡ token → IsOwn before w r
  pub id : (r : OutstandingRequest) → map.get requests.requests (message_id_of token) ≡ Some r
      → r.token ≡ token → r.pending.id ≡ message_id_of token

pub record InformStands (limits : InformLimits) (requests : Outstanding) (before : List InformHappening)
    (w : WaitingInform) : Type 0 where
  pub at : StandsAt limits before w.number w.inform w.exchange
  pub engine : (known_of w.number before).engine ≡ w.engine
  pub located : (m : SentMessage) → w.exchange.request.sent ≡ Some m → m ≢ Discovery → IsSome w.engine
  pub waits : (token : ℕ) → w.token ≡ Some token → IsWaitedFor requests before w token

-- the Inform of this number is among them
abbrev pub IsKept : List WaitingInform → ℕ → Type 0
IsKept list n = (w : WaitingInform) × Contains list w × (w.number ≡ n)

pub record InformsStand (before : List InformHappening) (f : Informs) : Type 0 where
  pub all : All (InformStands f.limits f.requests before) f.list.items
  -- each waits that has begun, and hasn't ended
  pub kept : (n : ℕ) (i : Inform) → Contains before (begins n i) → (known_of n before).over ≡ false
      → IsKept f.list.items n
  -- their numbers rise
  pub rise : AllPairs (λ (a b : WaitingInform). a.number < b.number) f.list.items
  -- nothing happened to a later one
  pub past : All (λ (e : InformHappening). inform_of e < f.next) before
  pub few : length f.list.items ≤ f.most

abbrev pub setting_of : Informs → InformSetting
setting_of f = record { limits = f.limits; users = f.manager.users; own = f.engine }

-- what happens is lawful, and all stands after it
pub record InformHappens (old : Informs) (before : List InformHappening) (happening : InformHappening) (new : Informs)
    : Type 0 where
  pub lawful : IsInformLawful (setting_of old) before happening
  pub stands : InformsStand (happening ∷ before) new

-- as many wait as may, or no number is left
abbrev pub IsFull : Informs → Type 0
IsFull f = (f.most ≤ length f.list.items) ⊎ (f.next ≡ 2 ^ 64 - 1)

-- nothing happens: the same Informs wait
pub record IsStill (old : Informs) (before : List InformHappening) (new : Informs) : Type 0 where
  pub list : new.list.items ≡ old.list.items
  pub stands : InformsStand before new

-- nothing changed of what waits, nor of the requests
pub record IsUntouched (old : Informs) (before : List InformHappening) (new : Informs) : Type 0 where
  pub list : new.list.items ≡ old.list.items
  pub requests : new.requests ≡ old.requests
  pub stands : InformsStand before new

-- ---- between the functions

-- the requests that wait are among those of before, but for such as were given a later token
pub record KeepsRequests (old new : Outstanding) : Type 0 where
  pub later : old.next ≤ new.next
  pub same : (token : ℕ) (r : OutstandingRequest) → token < old.next
      → map.get new.requests (message_id_of token) ≡ Some r → r.token ≡ token
      → map.get old.requests (message_id_of token) ≡ Some r

-- this Inform is at this place
abbrev pub IsAt : Informs → ℕ → WaitingInform → Type 0
IsAt f place w = slice_get f.list.items place ≡ Some w

-- an accepted message is an answer to the message that was sent last for it
pub record IsAnswered (before : List InformHappening) (w : WaitingInform) (given : Given) (heard : Heard)
    : Type 0 where
  pub asked : Asked
  pub is_asked : (known_of w.number before).asked ≡ Some asked
  pub is_sent : w.exchange.request.sent ≡ Some asked.message
  pub is_heard : IsHeardIn asked.pending given heard

-- nothing changed but the Informs that wait, and the requests
pub record IsSameElse (old new : Informs) : Type 0 where
  pub engine : new.engine ≡ old.engine
  pub manager : new.manager ≡ old.manager
  pub limits : new.limits ≡ old.limits
  pub most : new.most ≡ old.most
  pub next : new.next ≡ old.next

-- those with other tokens still wait
abbrev pub KeepsOthers : Outstanding → Option ℕ → Outstanding → Type 0
KeepsOthers old gone new = (token : ℕ) (r : OutstandingRequest) → gone ≢ Some token
    → map.get old.requests (message_id_of token) ≡ Some r → r.token ≡ token
    → map.get new.requests (message_id_of token) ≡ Some r

-- the Inform at this place is gone
pub record IsRemoved (old : Informs) (place : ℕ) (w : WaitingInform) (new : Informs) : Type 0 where
  pub at : IsAt old place w
  pub list : new.list.items ≡ remove old.list.items place
  pub requests : KeepsRequests old.requests new.requests
  pub same : IsSameElse old new

-- the request with this token waits, and this is remembered of it
pub record HasRequest (requests : Outstanding) (token : ℕ) (pending : Pending) : Type 0 where
  pub request : OutstandingRequest
  pub there : map.get requests.requests (message_id_of token) ≡ Some request
  pub token_is : request.token ≡ token
  pub pending_is : request.pending ≡ pending

-- an answer is waited for to the message that is sent for the Inform at this place
pub record WaitsForAnswer (old : Informs) (place now token : ℕ) (pending : Pending) (new : Informs) : Type 0 where
  pub before : WaitingInform
  pub at : IsAt old place before
  pub after : WaitingInform
  pub sent : IsSentInform old.limits now token before after
  pub list : new.list.items ≡ slice_set old.list.items place after
  pub requests : KeepsRequests old.requests new.requests
  pub given : token < new.requests.next
  pub id : pending.id ≡ message_id_of token
  pub waits : (r : OutstandingRequest) → map.get new.requests.requests (message_id_of token) ≡ Some r
      → r.token ≡ token → r.pending ≡ pending
  pub later : (t : ℕ) → t < old.requests.next → t < token
  pub there : before.token ≢ Some token → HasRequest new.requests token pending

-- it is a Report
abbrev pub IsReport : Heard → Type 0
IsReport Response = ⊥
IsReport (Report counter authentic) = Unit {0}

-- A Report after which nothing else is to be done ends no request: the Response to it can still come.
abbrev pub KeepsRequestsOf : HearStep → Outstanding → Outstanding → Type 0
KeepsRequestsOf heard old new = heard.turn ≡ step.Wait → IsReport heard.heard → new ≡ old

-- what is heard of it is lawful, whatever datagram of its receiver it is that was accepted
pub record AnswersGiven (old : Informs) (before : List InformHappening) (receiver : ℕ) (given : Given)
    (holds_clock : Bool) (told : Heard) (number : ℕ) (Next : NextStep → Type 0) (new : Informs) : Type 0 where
  pub heard : HearStep
  pub heard_is : heard.heard ≡ told
  pub kept : KeepsRequestsOf heard old.requests new.requests
  pub clock : heard.holds_clock ≡ holds_clock
  pub next : Next heard.turn
  pub happens : (what : Accepted) → what.receiver ≡ receiver → what.given ≡ given
      → IsAccepted old.manager.users what → InformHappens old before (answers number what heard) new

-- ---- what is taken

-- it goes on
abbrev pub IsGoingOn : NextStep → Type 0
IsGoingOn next = (next ≡ step.Wait) ⊎ ((m : SentMessage) × (next ≡ step.Send m))

-- it is no answer to the message that was sent last for an Inform, if one is waited for
abbrev pub IsForAnother : Outstanding → WaitingInform → Given → Contexts → PduParts → Type 0
IsForAnother requests w g c p = (token : ℕ) (r : OutstandingRequest) → w.token ≡ Some token
    → map.get requests.requests (message_id_of token) ≡ Some r → r.token ≡ token → IsHeardOf r.pending g c p None

-- the message of this receiver is no answer to what is waited for from it: whatever its contexts and its PDU are
abbrev pub IsForNone : Informs → ℕ → Given → Type 0
IsForNone f receiver g = (c : Contexts) (p : PduParts) → ScopedFront g.text c → PduText c.pdu p
    → All (λ (w : WaitingInform). w.inform.receiver ≡ receiver → IsForAnother f.requests w g c p) f.list.items

-- no answer of this receiver with this msgID is waited for
abbrev pub IsUnasked : Informs → ℕ → ℕ → Type 0
IsUnasked f receiver id = All (λ (w : WaitingInform). ¬ IsAskedAs receiver id w) f.list.items

-- it changes nothing of what waits: where it has a msgID of nothing that the receiver was sent, nor of the requests
pub record LeavesAll (old : Informs) (before : List InformHappening) (receiver : ℕ) (given : Given) (new : Informs)
    : Type 0 where
  pub none : IsForNone old receiver given
  pub still : IsStill old before new
  pub requests : IsUnasked old receiver given.id → new.requests ≡ old.requests

-- what becomes of an answer
abbrev pub HeardHappens : Informs → List InformHappening → ℕ → Given → Bool → Heard → ReceiverTaken → Informs
    → Type 0
HeardHappens old before receiver given holds_clock told (taken.Refused why) new = ⊥
HeardHappens old before receiver given holds_clock told taken.NoAnswer new = ⊥
HeardHappens old before receiver given holds_clock told (taken.Heard n) new =
    AnswersGiven old before receiver given holds_clock told n IsGoingOn new
HeardHappens old before receiver given holds_clock told (taken.Acknowledged n) new =
    AnswersGiven old before receiver given holds_clock told n (λ next. next ≡ step.Answered) new
HeardHappens old before receiver given holds_clock told (taken.Denied n counter) new =
    AnswersGiven old before receiver given holds_clock told n (λ next. next ≡ step.Refused counter) new

-- whether boots and time of this engine are held
abbrev pub holds : Held → List ℕ → Bool
holds held engine = is_some (pair_at held.clocks engine)

-- what becomes of an accepted message
abbrev pub AnswerHappens : Informs → List InformHappening → ℕ → Given → ReceiverTaken → Informs → Type 0
AnswerHappens old before receiver given taken.NoAnswer new = LeavesAll old before receiver given new
AnswerHappens old before receiver given (taken.Refused why) new = ⊥
AnswerHappens old before receiver given (taken.Heard n) new = (told : Heard)
    × HeardHappens old before receiver given (holds old.manager given.engine) told (taken.Heard n) new
AnswerHappens old before receiver given (taken.Acknowledged n) new = (told : Heard)
    × HeardHappens old before receiver given (holds old.manager given.engine) told (taken.Acknowledged n) new
AnswerHappens old before receiver given (taken.Denied n counter) new = (told : Heard)
    × HeardHappens old before receiver given (holds old.manager given.engine) told (taken.Denied n counter) new

-- a datagram of a receiver that was accepted at this moment, in milliseconds
abbrev pub accepted_at : Held → ℕ → ℕ → List ℕ → Given → Accepted
accepted_at held now receiver datagram given =
    record { held = held; seconds = now / 1000; receiver = receiver; datagram = datagram; given = given }

-- the message of this receiver that the manager accepts is an answer for the Inform of this number
pub record HearsOf (old : Informs) (before : List InformHappening) (now receiver : ℕ) (datagram : List ℕ)
    (number : ℕ) (Next : NextStep → Type 0) (new : Informs) : Type 0 where
  pub given : Given
  pub takes : Takes old.manager (now / 1000) datagram (Some (Ok given)) new.manager
  pub heard : HearStep
  pub kept : KeepsRequestsOf heard old.requests new.requests
  pub clock : heard.holds_clock ≡ holds new.manager given.engine
  pub next : Next heard.turn
  pub happens : InformHappens old before
      (answers number (accepted_at new.manager now receiver datagram given) heard) new

-- what becomes of a datagram
abbrev pub ReceiverHappens : Informs → List InformHappening → ℕ → ℕ → List ℕ → ReceiverTaken → Informs → Type 0
ReceiverHappens old before now receiver datagram (taken.Refused why) new =
    Takes old.manager (now / 1000) datagram (Some (Err why)) new.manager × IsUntouched old before new
ReceiverHappens old before now receiver datagram taken.NoAnswer new = (given : Given)
    × Takes old.manager (now / 1000) datagram (Some (Ok given)) new.manager × LeavesAll old before receiver given new
ReceiverHappens old before now receiver datagram (taken.Heard n) new =
    HearsOf old before now receiver datagram n IsGoingOn new
ReceiverHappens old before now receiver datagram (taken.Acknowledged n) new =
    HearsOf old before now receiver datagram n (λ next. next ≡ step.Answered) new
ReceiverHappens old before now receiver datagram (taken.Denied n counter) new =
    HearsOf old before now receiver datagram n (λ next. next ≡ step.Refused counter) new

-- ---- what goes out

-- as many messages wait for answers as may, or there is no token left
abbrev pub HasNoRoom : Outstanding → ℕ → Type 0
HasNoRoom requests first_id = (REQUESTS_LIMIT ≤ map.len requests.requests) ⊎ HasNoToken requests first_id

-- why it is given up
abbrev pub IsGivenUp : Outstanding → ℕ → InformEnd → Type 0
IsGivenUp requests first_id why = (why ≡ tried) ⊎ ((why ≡ no_token) × HasNoRoom requests first_id)

-- it is given up, and this is likely to be why it has no answer
pub record GivesUpOne (old : Informs) (before : List InformHappening) (now first_id : ℕ) (number receiver : ℕ)
    (hint : Option ℕ) (new : Informs) : Type 0 where
  pub inform : Inform
  pub at : InformExchange
  pub stands : StandsAt old.limits before number inform at
  pub hint_is : hint ≡ at.request.hint
  pub why : InformEnd
  pub is_given_up : IsGivenUp old.requests first_id why
  pub happens : InformHappens old before (ends number receiver now why) new

pub record SendsOne (old : Informs) (before : List InformHappening) (now : ℕ) (salt : List ℕ)
    (number receiver : ℕ) (message : SentMessage) (datagram : List ℕ) (new : Informs) : Type 0 where
  pub by : Sealing
  pub seconds : by.seconds ≡ now / 1000
  pub salt_is : by.salt ≡ salt
  pub pending : Pending
  -- its answer is waited for
  pub token : ℕ
  pub waits : HasRequest new.requests token pending
  pub among : (w : WaitingInform) × Contains new.list.items w × (w.number ≡ number) × (w.token ≡ Some token)
  pub happens : InformHappens old before (asks number receiver now message old.manager by pending datagram) new

abbrev pub InformSendHappens : Informs → List InformHappening → ℕ → List ℕ → ℕ → InformSent → Informs → Type 0
InformSendHappens old before now salt first_id (out.ToReceiver n receiver message datagram) new =
    SendsOne old before now salt n receiver message datagram.items new
InformSendHappens old before now salt first_id (out.Unsent n receiver why) new =
    (message : SentMessage) × (by : Sealing)
    × InformHappens old before (ends n receiver now (refused message old.manager by why)) new
InformSendHappens old before now salt first_id (out.GivenUp n receiver hint) new =
    GivesUpOne old before now first_id n receiver hint new
InformSendHappens old before now salt first_id out.Nothing new = IsStill old before new

-- ---- what stays

-- the same engine, users, limits, and as many Informs may wait
pub record InformsStay (old new : Informs) : Type 0 where
  pub engine : new.engine ≡ old.engine
  pub users : new.manager.users ≡ old.manager.users
  pub limits : new.limits ≡ old.limits
  pub most : new.most ≡ old.most

-- and all else is the same
pub record AreAsBefore (old new : Informs) : Type 0 where
  pub stays : InformsStay old new
  pub manager : new.manager ≡ old.manager
  pub requests : new.requests ≡ old.requests
  pub list : new.list.items ≡ old.list.items
  pub next : new.next ≡ old.next
