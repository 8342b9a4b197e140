-- What the receiver of one Inform is sent, whatever is heard.
--
-- `IsExchangeRun`: what was sent and heard leads from one exchange to another. `times_tried`: how often a message was
-- sent. `heard_in`: what was heard. `AreWaits`: nothing was sent, and nothing heard by which another message is due.
use Rattle.std.specs.Prelude.{◌≡◌, ◌≢◌, ◌≤◌, ℕ, ◌+◌, List, [], ◌∷◌, ◌++◌}
use Rattle.snmp_requests.specs.declared.device_request.SentMessage.{SentMessage}
use Rattle.snmp_requests.specs.declared.device_request.NextStep.TheVariants as step
use Rattle.snmp_requests.specs.DeviceRequestRuns.{HearStep, is_sending}
use Rattle.snmp_forward.specs.Exchange.{HearsAnswer, IsSent, MayBeTried}
use Rattle.snmp_forward.specs.declared.exchange.InformExchange.{InformExchange}
use Rattle.snmp_forward.specs.declared.exchange.InformLimits.{InformLimits}

-- the receiver is sent a message that is due, at a moment; an answer is heard
pub data ExchangeStep : Type 0 where
  sends : (now : ℕ) (message : SentMessage) → ExchangeStep
  hears : (what : HearStep) → ExchangeStep

abbrev pub Steps : InformLimits → InformExchange → ExchangeStep → InformExchange → Type 0
Steps limits old (sends now m) new = (old.due ≤ now) × MayBeTried limits old m × IsSent limits now old new
Steps limits old (hears what) new = HearsAnswer old what.heard what.holds_clock what.turn new

-- the steps, the latest of them first
abbrev pub IsExchangeRun : InformLimits → InformExchange → List ExchangeStep → InformExchange → Type 0
IsExchangeRun limits first [] last = last ≡ first
IsExchangeRun limits first (step ∷ before) last = (middle : InformExchange) × IsExchangeRun limits first before middle
    × Steps limits middle step last

-- 1 where this message is sent
abbrev pub is_trying : SentMessage → ExchangeStep → ℕ
is_trying m (sends now n) = is_sending m (step.Send n)
is_trying m (hears what) = 0

abbrev pub times_tried : SentMessage → List ExchangeStep → ℕ
times_tried m [] = 0
times_tried m (step ∷ before) = is_trying m step + times_tried m before

-- what was heard, the first of it first
abbrev pub heard_in : List ExchangeStep → List HearStep
heard_in [] = []
heard_in (sends now n ∷ before) = heard_in before
heard_in (hears what ∷ before) = heard_in before ++ what ∷ []

-- nothing is to be sent by it
abbrev pub IsWait : ExchangeStep → Type 0
IsWait (sends now n) = ⊥
IsWait (hears what) = (m : SentMessage) → what.turn ≢ step.Send m

abbrev pub AreWaits : List ExchangeStep → Type 0
AreWaits [] = Unit {0}
AreWaits (step ∷ steps) = IsWait step × AreWaits steps
