-- What happened to Informs, and what the laws say of it.
--
-- A history is a list of what happened, the latest first. `known_of`: what is known of an Inform by what happened to
-- it. `IsInformLawful`: the laws, of what happens after a history. `AreInformsLawful`: each part of a history is lawful
-- after the parts before it.
use Rattle.std.specs.Prelude.{◌≡◌, ◌≢◌, ◌<◌, ◌≤◌, ⊤, ℕ, Bool, true, false, cond, nat_eq, List, [], ◌∷◌, All, Contains}
use Rattle.std.specs.Prelude.{Option, Some, None, IsSome, Ok, option_map}
use Rattle.usm_users.specs.User.{User}
use Rattle.snmp_message.specs.Scoped.{Contexts, ScopedFront}
use Rattle.snmp_message.specs.declared.refusal.Refusal.{Refusal}
use Rattle.snmp_msg.specs.Pdu.{PduParts, PduText}
use Rattle.snmp_incoming.specs.Outcome.{Given, Outcome, as_manager}
use Rattle.snmp_manager.specs.Views.{Held}
use Rattle.snmp_manager.specs.declared.pending.Pending.{Pending}
use Rattle.snmp_requests.specs.Answering.{IsHeardOf}
use Rattle.snmp_requests.specs.DeviceRequestRuns.{HearStep}
use Rattle.snmp_requests.specs.DeviceRequests.{Begins}
use Rattle.snmp_requests.specs.declared.device_request.Heard.{Heard}
use Rattle.snmp_requests.specs.declared.device_request.NextStep.{NextStep}
use Rattle.snmp_requests.specs.declared.device_request.NextStep.TheVariants as step
use Rattle.snmp_requests.specs.declared.device_request.SentMessage.{SentMessage}
use Rattle.snmp_requests.specs.declared.device_request.SentMessage.TheVariants.{Discovery}
use Rattle.snmp_forward.specs.Exchange.{HearsAnswer, MayBeTried, MayNotBeTried}
use Rattle.snmp_forward.specs.ExchangeRuns.{ExchangeStep, IsExchangeRun, hears, sends}
use Rattle.snmp_forward.specs.WaitingInforms.{RefusesMessage, SendsMessage, engine_after, waits_after}
use Rattle.snmp_forward.specs.declared.exchange.InformExchange.{InformExchange}
use Rattle.snmp_forward.specs.declared.exchange.InformLimits.{InformLimits}
use Rattle.snmp_forward.specs.declared.inform.Inform.{Inform}
use Rattle.snmp_forward.specs.declared.sealing.Sealing.{Sealing}

-- a datagram that came from a receiver at a moment, in seconds, and was accepted, with what the manager holds then
pub record Accepted : Type 0 where
  pub held : Held
  pub seconds : ℕ
  pub receiver : ℕ
  pub datagram : List ℕ
  pub given : Given

-- why an Inform ends without an answer: it was sent as often as it may be; there is no token left; or its message can't
-- be sealed
pub data InformEnd : Type 0 where
  tried : InformEnd
  no_token : InformEnd
  refused : (message : SentMessage) (held : Held) (by : Sealing) (why : Refusal) → InformEnd

-- moments are milliseconds
pub data InformHappening : Type 0 where
  -- an Inform begins to wait
  begins : (number : ℕ) (inform : Inform) → InformHappening
  -- its receiver is sent a message, sealed with what the manager holds, of which this is remembered
  asks : (number receiver now : ℕ) (message : SentMessage) (held : Held) (by : Sealing) (pending : Pending)
      (datagram : List ℕ) → InformHappening
  -- an answer is heard
  answers : (number : ℕ) (what : Accepted) (heard : HearStep) → InformHappening
  -- it ends without one
  ends : (number receiver now : ℕ) (why : InformEnd) → InformHappening

-- the Inform to which it happens
abbrev pub inform_of : InformHappening → ℕ
inform_of (begins number inform) = number
inform_of (asks number receiver now message held by pending datagram) = number
inform_of (answers number what heard) = number
inform_of (ends number receiver now why) = number

-- ---- what is known of an Inform

-- a message that was sent, and what is remembered of it
pub record Asked : Type 0 where
  pub message : SentMessage
  pub pending : Pending

abbrev pub asked_with : SentMessage → Pending → Asked
asked_with message pending = record { message = message; pending = pending }

pub record InformKnown : Type 0 where
  -- what was sent and heard, the latest of it first
  pub steps : List ExchangeStep
  -- the receiver's engine
  pub engine : Option (List ℕ)
  -- the message whose answer is waited for
  pub asked : Option Asked
  -- it has ended
  pub over : Bool

abbrev pub nothing_known : InformKnown
nothing_known = record { steps = []; engine = None; asked = None; over = false }

abbrev pub is_end : NextStep → Bool
is_end step.Answered = true
is_end (step.Refused counter) = true
is_end (step.Send m) = false
is_end step.Wait = false

abbrev pub message_of : Option Asked → Option SentMessage
message_of asked = option_map (λ (a : Asked). a.message) asked

abbrev pub known_after : InformHappening → InformKnown → InformKnown
known_after (begins number inform) k = nothing_known
known_after (asks number receiver now message held by pending datagram) k = record {
  steps = sends now message ∷ k.steps;
  engine = k.engine;
  asked = Some (asked_with message pending);
  over = k.over;
}
known_after (answers number what heard) k = record {
  steps = hears heard ∷ k.steps;
  engine = engine_after (message_of k.asked) heard.turn what.given.engine k.engine;
  asked = waits_after heard.turn k.asked;
  over = is_end heard.turn;
}
known_after (ends number receiver now why) k = record {
  steps = k.steps;
  engine = k.engine;
  asked = k.asked;
  over = true;
}

abbrev pub known_of : ℕ → List InformHappening → InformKnown
known_of n [] = nothing_known
known_of n (e ∷ before) = cond (nat_eq n (inform_of e)) (known_after e (known_of n before)) (known_of n before)

-- ---- the laws

-- it stands here, by what was sent and heard
pub record StandsAt (limits : InformLimits) (before : List InformHappening) (number : ℕ) (inform : Inform)
    (at : InformExchange) : Type 0 where
  pub is_begun : Contains before (begins number inform)
  pub not_over : (known_of number before).over ≡ false
  pub first : InformExchange
  pub begun : Begins inform.level Discovery first.request
  pub anew : first.times ≡ 0
  pub run : IsExchangeRun limits first (known_of number before).steps at

-- by what Informs are sent: how they wait, the users, and the engine from which they go
pub record InformSetting : Type 0 where
  pub limits : InformLimits
  pub users : List User
  pub own : List ℕ

-- a message is sent for it only if it is due and may be tried once more: to its receiver, and as what it is
pub record IsAsk (s : InformSetting) (before : List InformHappening) (number receiver now : ℕ)
    (message : SentMessage) (held : Held) (by : Sealing) (pending : Pending) (datagram : List ℕ) : Type 0 where
  pub inform : Inform
  pub to : inform.receiver ≡ receiver
  pub at : InformExchange
  pub stands : StandsAt s.limits before number inform at
  pub due : at.due ≤ now
  pub may : MayBeTried s.limits at message
  -- only the discovery is for no engine
  pub known : message ≢ Discovery → IsSome (known_of number before).engine
  pub users : held.users ≡ s.users
  pub goes : SendsMessage held s.own (known_of number before).engine inform message by pending datagram

-- the manager accepts the datagram
abbrev pub IsAccepted : List User → Accepted → Type 0
IsAccepted users a = Outcome (as_manager a.held.clocks) users a.seconds a.datagram (Ok a.given)

-- an accepted message is this to a request
abbrev pub IsHeardIn : Pending → Given → Heard → Type 0
IsHeardIn pending g heard = (c : Contexts) (p : PduParts) → ScopedFront g.text c → PduText c.pdu p
    → IsHeardOf pending g c p (Some heard)

-- an answer is heard only if it came from the receiver of the Inform, was accepted, and is one to the very message that
-- was sent last
pub record IsAnswer (s : InformSetting) (before : List InformHappening) (number : ℕ) (what : Accepted)
    (heard : HearStep) : Type 0 where
  pub inform : Inform
  pub from : inform.receiver ≡ what.receiver
  pub at : InformExchange
  pub stands : StandsAt s.limits before number inform at
  pub asked : Asked
  pub is_asked : (known_of number before).asked ≡ Some asked
  pub is_sent : at.request.sent ≡ Some asked.message
  pub accepted : IsAccepted s.users what
  pub is_heard : IsHeardIn asked.pending what.given heard.heard
  pub next : InformExchange
  pub goes_on : HearsAnswer at heard.heard heard.holds_clock heard.turn next

-- the reason why it ends
abbrev pub IsReason : InformSetting → Option (List ℕ) → Inform → InformExchange → InformEnd → Type 0
IsReason s engine inform at tried = MayNotBeTried s.limits at
IsReason s engine inform at no_token = ⊤
IsReason s engine inform at (refused message held by why) = (at.request.sent ≡ Some message)
    × (held.users ≡ s.users) × RefusesMessage held s.own engine inform message by why

pub record IsEnd (s : InformSetting) (before : List InformHappening) (number receiver now : ℕ) (why : InformEnd)
    : Type 0 where
  pub inform : Inform
  pub to : inform.receiver ≡ receiver
  pub at : InformExchange
  pub stands : StandsAt s.limits before number inform at
  pub due : at.due ≤ now
  pub reason : IsReason s (known_of number before).engine inform at why

-- an Inform has a number of its own
abbrev pub IsInformLawful : InformSetting → List InformHappening → InformHappening → Type 0
IsInformLawful s before (begins number inform) = All (λ (e : InformHappening). inform_of e < number) before
IsInformLawful s before (asks number receiver now message held by pending datagram) =
    IsAsk s before number receiver now message held by pending datagram
IsInformLawful s before (answers number what heard) = IsAnswer s before number what heard
IsInformLawful s before (ends number receiver now why) = IsEnd s before number receiver now why

abbrev pub AreInformsLawful : InformSetting → List InformHappening → Type 0
AreInformsLawful s [] = ⊤
AreInformsLawful s (now ∷ before) = IsInformLawful s before now × AreInformsLawful s before
