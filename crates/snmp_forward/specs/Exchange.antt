-- One Inform: what its receiver is sent, when, and how often (RFC 3413, section 3.3; RFC 3414, section 4).
--
-- `IsTurn`: what is to be done now. `IsSent`: the message that is due is sent. `HearsAnswer`: an answer came to it.
use Rattle.std.specs.Prelude.{◌≡◌, ◌≢◌, ◌⊎◌, ◌<◌, ◌≤◌, ◌+◌, ◌-◌, ◌^◌, ℕ, Bool, Option, Some, None, min}
use Rattle.snmp_requests.specs.declared.device_request.Heard.{Heard}
use Rattle.snmp_requests.specs.declared.device_request.SentMessage.{SentMessage}
use Rattle.snmp_requests.specs.declared.device_request.NextStep.{NextStep}
use Rattle.snmp_requests.specs.declared.device_request.NextStep.TheVariants as step
use Rattle.snmp_requests.specs.DeviceRequests.{Hears}
use Rattle.snmp_forward.specs.declared.exchange.InformExchange.{InformExchange}
use Rattle.snmp_forward.specs.declared.exchange.InformLimits.{InformLimits}
use Rattle.snmp_forward.specs.declared.exchange.InformTurn.{InformTurn}
use Rattle.snmp_forward.specs.declared.exchange.InformTurn.TheVariants.{Wait, Send, GiveUp}

-- the receiver may be sent this once more
pub record MayBeTried (limits : InformLimits) (x : InformExchange) (m : SentMessage) : Type 0 where
  pub asked : x.request.sent ≡ Some m
  pub tries : x.times < limits.tries

-- it may be sent nothing more
abbrev pub MayNotBeTried : InformLimits → InformExchange → Type 0
MayNotBeTried limits x = (x.request.sent ≡ None) ⊎ (limits.tries ≤ x.times)

abbrev pub IsTurn : InformLimits → InformExchange → ℕ → InformTurn → Type 0
IsTurn limits x now Wait = now < x.due
IsTurn limits x now (Send m) = (x.due ≤ now) × MayBeTried limits x m
IsTurn limits x now GiveUp = (x.due ≤ now) × MayNotBeTried limits x

-- it is sent at this moment, and sent again no earlier than the time for an answer is over
pub record IsSent (limits : InformLimits) (now : ℕ) (old new : InformExchange) : Type 0 where
  pub request : new.request ≡ old.request
  pub times : new.times ≡ old.times + 1
  pub due : new.due ≡ min (now + limits.again) (2 ^ 64 - 1)

-- how often the message that is sent next was sent: it is the same as before, or another one
pub record IsCounted (sent : Option SentMessage) (m : SentMessage) (old new : ℕ) : Type 0 where
  pub same : sent ≡ Some m → new ≡ old
  pub other : sent ≢ Some m → new ≡ 0

-- when something is to be done, and how often what is sent then was sent: a message that is sent next is due at once
abbrev pub GoesOn : InformExchange → NextStep → InformExchange → Type 0
GoesOn old (step.Send m) new = IsCounted old.request.sent m old.times new.times × (new.due ≡ 0)
GoesOn old _ new = (new.times ≡ old.times) × (new.due ≡ old.due)

pub record HearsAnswer (old : InformExchange) (heard : Heard) (holds_clock : Bool) (next : NextStep)
    (new : InformExchange) : Type 0 where
  pub hears : Hears old.request heard holds_clock next new.request
  pub goes_on : GoesOn old next new
