-- Informs that wait to be acknowledged.
--
-- `IsNewInform`: one of which nothing was sent. `SendsMessage`, `RefusesMessage`: what becomes of a message for its
-- receiver. `IsSentInform`: the message that is due is sent. `HearsInform`: an answer came to the message that was
-- sent last. `IsAsked`, `IsAskedAs`: an answer of a receiver is waited for. `IsDue`: something is to be done for it.
-- `IsFirstOf`: the place of the first element with a property. `IsFirstDue`: when something is to be done for the first
-- of them.
use Rattle.std.specs.Prelude.{◌≡◌, ◌≤◌, ℕ, Bool, List, [], All, Contains, Option, Some, None, Err, slice_get}
use Rattle.std.specs.Prelude.{take}
use Rattle.snmp_requests.specs.declared.device_request.Heard.{Heard}
use Rattle.snmp_requests.specs.declared.device_request.NextStep.{NextStep}
use Rattle.snmp_requests.specs.declared.device_request.NextStep.TheVariants as step
use Rattle.snmp_requests.specs.declared.device_request.SentMessage.{SentMessage}
use Rattle.snmp_requests.specs.declared.device_request.SentMessage.TheVariants.{Discovery, TimeRequest, Request}
use Rattle.snmp_requests.specs.DeviceRequests.{Begins}
use Rattle.snmp_requests.specs.Outstanding.{message_id_of}
use Rattle.snmp_manager.specs.Views.{Held}
use Rattle.snmp_manager.specs.declared.pending.Pending.{Pending}
use Rattle.snmp_message.specs.declared.refusal.Refusal.{Refusal}
use Rattle.snmp_forward.specs.Exchange.{HearsAnswer, IsSent}
use Rattle.snmp_forward.specs.Informs.{RefusesInform, SealsTimeRequest, SendsDiscovery, SendsInform, SendsTimeRequest}
use Rattle.snmp_forward.specs.declared.exchange.InformLimits.{InformLimits}
use Rattle.snmp_forward.specs.declared.asking.AskedWith.{AskedWith}
use Rattle.snmp_forward.specs.declared.asking.AskedWith.TheVariants.{Sends, Refused}
use Rattle.snmp_forward.specs.declared.inform.Inform.{Inform}
use Rattle.snmp_forward.specs.declared.sealing.Sealing.{Sealing}
use Rattle.snmp_forward.specs.declared.waiting_inform.WaitingInform.{WaitingInform}

-- nothing was sent of it
pub record IsNewInform (number : ℕ) (inform : Inform) (w : WaitingInform) : Type 0 where
  pub number_is : w.number ≡ number
  pub inform_is : w.inform ≡ inform
  pub begins : Begins inform.level Discovery w.exchange.request
  pub times : w.exchange.times ≡ 0
  pub due : w.exchange.due ≡ 0
  pub engine : w.engine ≡ None
  pub token : w.token ≡ None

-- the engine and the user to which a message is addressed, for an Inform to a receiver of whose engine this is known
abbrev pub IsAddressed : Option (List ℕ) → Inform → SentMessage → List ℕ → List ℕ → Type 0
IsAddressed None inform m engine user = (engine ≡ []) × (user ≡ [])
IsAddressed (Some known) inform Discovery engine user = (engine ≡ []) × (user ≡ [])
IsAddressed (Some known) inform TimeRequest engine user = (engine ≡ known) × (user ≡ inform.user.items)
IsAddressed (Some known) inform Request engine user = (engine ≡ known) × (user ≡ inform.user.items)

-- this message goes out, and this is remembered of it; an engine that isn't known is discovered
abbrev pub SendsMessage : Held → List ℕ → Option (List ℕ) → Inform → SentMessage → Sealing → Pending → List ℕ → Type 0
SendsMessage held own None inform m by pending datagram = SendsDiscovery held by pending datagram
SendsMessage held own (Some engine) inform Discovery by pending datagram = SendsDiscovery held by pending datagram
SendsMessage held own (Some engine) inform TimeRequest by pending datagram =
    SendsTimeRequest held engine inform by pending datagram
SendsMessage held own (Some engine) inform Request by pending datagram =
    SendsInform held own engine inform by pending datagram

-- it can't be sealed, for this reason
abbrev pub RefusesMessage : Held → List ℕ → Option (List ℕ) → Inform → SentMessage → Sealing → Refusal → Type 0
RefusesMessage held own None inform m by why = ⊥
RefusesMessage held own (Some engine) inform Discovery by why = ⊥
RefusesMessage held own (Some engine) inform TimeRequest by why = SealsTimeRequest held engine inform by (Err why)
RefusesMessage held own (Some engine) inform Request by why = RefusesInform held own engine inform by why

-- what becomes of a message
abbrev pub IsMessageWritten : Held → List ℕ → Option (List ℕ) → Inform → SentMessage → Sealing → AskedWith → Type 0
IsMessageWritten held own engine inform m by (Sends datagram pending) =
    SendsMessage held own engine inform m by pending datagram.items
IsMessageWritten held own engine inform m by (Refused why) = RefusesMessage held own engine inform m by why

-- the message that is due is sent, and an answer to it is waited for under this token
pub record IsSentInform (limits : InformLimits) (now token : ℕ) (old new : WaitingInform) : Type 0 where
  pub sent : IsSent limits now old.exchange new.exchange
  pub token_is : new.token ≡ Some token
  pub number : new.number ≡ old.number
  pub inform : new.inform ≡ old.inform
  pub engine : new.engine ≡ old.engine

-- the receiver's engine, once an answer to the message that was sent last has come from this one
abbrev pub engine_after : Option SentMessage → NextStep → List ℕ → Option (List ℕ) → Option (List ℕ)
engine_after (Some Discovery) (step.Send m) engine known = Some engine
engine_after sent next engine known = known

-- nothing is waited for once another message is to be sent
abbrev pub waits_after : {X : Type 0} → NextStep → Option X → Option X
waits_after (step.Send m) waits = None
waits_after next waits = waits

pub record HearsInform (old : WaitingInform) (heard : Heard) (holds_clock : Bool) (engine : List ℕ) (next : NextStep)
    (new : WaitingInform) : Type 0 where
  pub hears : HearsAnswer old.exchange heard holds_clock next new.exchange
  pub engine_is : new.engine ≡ engine_after old.exchange.request.sent next engine old.engine
  pub token_is : new.token ≡ waits_after next old.token
  pub number : new.number ≡ old.number
  pub inform : new.inform ≡ old.inform

-- ---- which of them

-- an answer of this receiver to the message with this token is waited for
pub record IsAsked (receiver token : ℕ) (w : WaitingInform) : Type 0 where
  pub to : w.inform.receiver ≡ receiver
  pub token_is : w.token ≡ Some token

-- an answer of this receiver to a message with this msgID is waited for
pub record IsAskedAs (receiver id : ℕ) (w : WaitingInform) : Type 0 where
  pub to : w.inform.receiver ≡ receiver
  pub token : ℕ
  pub token_is : w.token ≡ Some token
  pub id_is : message_id_of token ≡ id

-- something is to be done for it at this moment
abbrev pub IsDue : ℕ → WaitingInform → Type 0
IsDue now w = w.exchange.due ≤ now

-- the element at this place is the first that has P
pub record IsFirstOf {A : Type 0} (P : A → Type 0) (xs : List A) (place : ℕ) : Type 0 where
  pub it : A
  pub at : slice_get xs place ≡ Some it
  pub has : P it
  pub before : All (λ (x : A). P x → ⊥) (take place xs)

-- something is to be done for one of them at this moment, and for none before
pub record IsFirstDue (list : List WaitingInform) (due : ℕ) : Type 0 where
  pub first : WaitingInform
  pub there : Contains list first
  pub due_is : due ≡ first.exchange.due
  pub least : All (λ (w : WaitingInform). due ≤ w.exchange.due) list
