-- What the receiver of one Inform is sent, whatever is heard.
use Rattle.std.specs.Prelude.{◌≡◌, ◌≢◌, ℕ, ◌+◌, ◌-◌, ◌^◌, ◌<◌, ◌≤◌, Bool, true, false, List, [], ◌∷◌, ◌++◌, Option, Some, None, min}
use Rattle.std.proofs.Common.{refl, sym, ap, subst, ◌∙◌, inl, inr, arith}
use Rattle.snmp_ber.specs.declared.level.Level.{Level}
use Rattle.snmp_ber.specs.declared.level.Level.TheVariants.{NoAuthNoPriv, AuthNoPriv, AuthPriv}
use Rattle.snmp_requests.specs.declared.device_request.DeviceRequest.{DeviceRequest}
use Rattle.snmp_requests.specs.declared.device_request.Heard.{Heard}
use Rattle.snmp_requests.specs.declared.device_request.SentMessage.{SentMessage}
use Rattle.snmp_requests.specs.declared.device_request.SentMessage.TheVariants.{Discovery, TimeRequest, Request}
use Rattle.snmp_requests.specs.declared.device_request.NextStep.{NextStep}
use Rattle.snmp_requests.specs.declared.device_request.NextStep.TheVariants.{Wait, Send, Answered, Refused}
use Rattle.snmp_requests.specs.DeviceRequests.{Hears, ended, to_engine}
use Rattle.snmp_requests.specs.DeviceRequestRuns.{HearStep, IsHeardRun, is_sending}
use Rattle.snmp_forward.specs.Exchange.{HearsAnswer, IsCounted, IsSent, MayBeTried}
use Rattle.snmp_forward.specs.ExchangeRuns.{AreWaits, ExchangeStep, IsExchangeRun, Steps, hears, heard_in, is_trying, sends, times_tried}
use Rattle.snmp_forward.specs.declared.exchange.InformExchange.{InformExchange}
use Rattle.snmp_forward.specs.declared.exchange.InformLimits.{InformLimits}

-- ---- how often a message is sent

-- how often it can still be sent, once this was sent so often
abbrev left : ℕ → SentMessage → Option SentMessage → ℕ → ℕ
left tries Discovery (Some Discovery) times = tries - times
left tries TimeRequest (Some Discovery) times = tries
left tries TimeRequest (Some TimeRequest) times = tries - times
left tries Request (Some Discovery) times = tries
left tries Request (Some TimeRequest) times = tries
left tries Request (Some Request) times = tries - times
left tries m sent times = 0

abbrev left_at : ℕ → SentMessage → InformExchange → ℕ
left_at tries m x = left tries m x.request.sent x.times

left_most : (tries : ℕ) (m : SentMessage) (sent : Option SentMessage) → left tries m sent 0 ≤ tries
left_most tries Discovery None = omega arith
left_most tries Discovery (Some Discovery) = omega arith
left_most tries Discovery (Some TimeRequest) = omega arith
left_most tries Discovery (Some Request) = omega arith
left_most tries TimeRequest None = omega arith
left_most tries TimeRequest (Some Discovery) = omega arith
left_most tries TimeRequest (Some TimeRequest) = omega arith
left_most tries TimeRequest (Some Request) = omega arith
left_most tries Request None = omega arith
left_most tries Request (Some Discovery) = omega arith
left_most tries Request (Some TimeRequest) = omega arith
left_most tries Request (Some Request) = omega arith

left_none : (tries : ℕ) (m : SentMessage) (times : ℕ) → left tries m None times ≡ 0
left_none tries Discovery times = refl
left_none tries TimeRequest times = refl
left_none tries Request times = refl

tried : (tries : ℕ) (m n : SentMessage) (times : ℕ) → times < tries → is_sending m (Send n) + left tries m (Some n) (times + 1) ≤ left tries m (Some n) times
tried tries Discovery Discovery times less = omega (arith, less)
tried tries Discovery TimeRequest times less = omega arith
tried tries Discovery Request times less = omega arith
tried tries TimeRequest Discovery times less = omega arith
tried tries TimeRequest TimeRequest times less = omega (arith, less)
tried tries TimeRequest Request times less = omega arith
tried tries Request Discovery times less = omega arith
tried tries Request TimeRequest times less = omega arith
tried tries Request Request times less = omega (arith, less)

engine_left : (tries : ℕ) (m n : SentMessage) (times : ℕ) → n ≢ Discovery → left tries m (Some n) 0 ≤ left tries m (Some Discovery) times
engine_left tries m Discovery times other = absurd (other refl)
engine_left tries Discovery TimeRequest times other = omega arith
engine_left tries Discovery Request times other = omega arith
engine_left tries TimeRequest TimeRequest times other = omega arith
engine_left tries TimeRequest Request times other = omega arith
engine_left tries Request TimeRequest times other = omega arith
engine_left tries Request Request times other = omega arith

time_left : (tries : ℕ) (m : SentMessage) (times : ℕ) → left tries m (Some Request) 0 ≤ left tries m (Some TimeRequest) times
time_left tries Discovery times = omega arith
time_left tries TimeRequest times = omega arith
time_left tries Request times = omega arith

to_engine-other : (level : Level) (holds : Bool) → to_engine level holds ≢ Discovery
to_engine-other NoAuthNoPriv holds e = cc e
to_engine-other AuthNoPriv true e = cc e
to_engine-other AuthNoPriv false e = cc e
to_engine-other AuthPriv true e = cc e
to_engine-other AuthPriv false e = cc e

some_same : {X : Type 0} (a b : X) → Some a ≡ Some b → a ≡ b
some_same a b e = cc e

-- what is left once another message is to be sent next
other_left : (tries : ℕ) (m n k : SentMessage) (x new : InformExchange) → x.request.sent ≡ Some k → new.request.sent ≡ Some n → n ≢ k → IsCounted x.request.sent n x.times new.times
    → left tries m (Some n) 0 ≤ left tries m (Some k) x.times → left_at tries m new ≤ left_at tries m x
other_left tries m n k x new from to other counted less =
    let anew : new.times ≡ 0 = counted.other (λ is. other (some_same n k (sym is ∙ from))) in
    let after : left_at tries m new ≡ left tries m (Some n) 0 = ap (λ (sent : Option SentMessage). left tries m sent new.times) to ∙ ap (left tries m (Some n)) anew in
    let before : left_at tries m x ≡ left tries m (Some k) x.times = ap (λ (sent : Option SentMessage). left tries m sent x.times) from in
    omega (arith, less, after, before)

over_left : (tries : ℕ) (m : SentMessage) (x new : InformExchange) → new.request ≡ ended x.request → left_at tries m new ≡ 0
over_left tries m x new is = ap (λ (r : DeviceRequest). left tries m r.sent new.times) is ∙ left_none tries m new.times

hears_left : (tries : ℕ) (m : SentMessage) (x : InformExchange) (heard : Heard) (holds : Bool) (next : NextStep) (new : InformExchange) → HearsAnswer x heard holds next new → left_at tries m new ≤ left_at tries m x
hears_left tries m x heard holds (Send n) new h = elim h.hears [
  | inl tells ↦
      let other : n ≢ Discovery = λ e. to_engine-other x.request.level holds (sym tells.1 ∙ e) in
      other_left tries m n Discovery x new tells.0.asked (ap (λ (r : DeviceRequest). r.sent) tells.2) other h.goes_on.0 (engine_left tries m n x.times other)
  | inr later ↦ elim later [
    | inl tells ↦
        let to : new.request.sent ≡ Some n = ap (λ (r : DeviceRequest). r.sent) tells.2 in
        other_left tries m n TimeRequest x new tells.0.asked to (λ e. let wrong : Request ≡ TimeRequest = sym tells.1 ∙ e in cc wrong) h.goes_on.0
        (subst (λ (k : SentMessage). left tries m (Some k) 0 ≤ left tries m (Some TimeRequest) x.times) (sym tells.1) (time_left tries m x.times))
    | inr window ↦
        let to : new.request.sent ≡ Some Request = ap (λ (r : DeviceRequest). r.sent) window.2 ∙ ap Some window.1 in
        let same : new.times ≡ x.times = h.goes_on.0.same (window.0.asked ∙ ap Some (sym window.1)) in
        let after : left_at tries m new ≡ left tries m (Some Request) x.times = ap (λ (sent : Option SentMessage). left tries m sent new.times) to ∙ ap (left tries m (Some Request)) same in
        let before : left_at tries m x ≡ left tries m (Some Request) x.times = ap (λ (sent : Option SentMessage). left tries m sent x.times) window.0.asked in
        omega (arith, after, before)
  ]
]
hears_left tries m x heard holds Answered new h = omega (arith, over_left tries m x new h.hears.1)
hears_left tries m x heard holds (Refused counter) new h = omega (arith, over_left tries m x new h.hears.1)
hears_left tries m x heard holds Wait new h =
    let after : left_at tries m new ≡ left tries m x.request.sent x.times = ap (λ (r : DeviceRequest). left tries m r.sent new.times) h.hears.1 ∙ ap (left tries m x.request.sent) h.goes_on.0 in
    omega (arith, after)

-- one answer more is heard
heard_last : (steps : List HearStep) (first middle : DeviceRequest) (what : HearStep) (last : DeviceRequest) → IsHeardRun first steps middle → Hears middle what.heard what.holds_clock what.turn last → IsHeardRun first (steps ++ what ∷ []) last
heard_last [] first middle what last run is = (last, subst (λ (r : DeviceRequest). Hears r what.heard what.holds_clock what.turn last) run is, refl)
heard_last (step ∷ steps) first middle what last run is = (run.0, run.1, heard_last steps run.0 middle what last run.2 is)

module _ (limits : InformLimits) where
  sends_left : (m n : SentMessage) (now : ℕ) (x new : InformExchange) → MayBeTried limits x n → IsSent limits now x new → is_sending m (Send n) + left_at limits.tries m new ≤ left_at limits.tries m x
  sends_left m n now x new may sent =
      let to : new.request.sent ≡ Some n = ap (λ (r : DeviceRequest). r.sent) sent.request ∙ may.asked in
      let after : left_at limits.tries m new ≡ left limits.tries m (Some n) (x.times + 1) =
      ap (λ (s : Option SentMessage). left limits.tries m s new.times) to ∙ ap (left limits.tries m (Some n)) sent.times in
      let before : left_at limits.tries m x ≡ left limits.tries m (Some n) x.times = ap (λ (s : Option SentMessage). left limits.tries m s x.times) may.asked in
      omega (arith, after, before, tried limits.tries m n x.times may.tries)

  step_left : (m : SentMessage) (x : InformExchange) (step : ExchangeStep) (new : InformExchange) → Steps limits x step new → is_trying m step + left_at limits.tries m new ≤ left_at limits.tries m x
  step_left m x (sends now n) new is = sends_left m n now x new is.1 is.2
  step_left m x (hears what) new is = omega (arith, hears_left limits.tries m x what.heard what.holds_clock what.turn new is)

  run_left : (m : SentMessage) (steps : List ExchangeStep) (first last : InformExchange) → IsExchangeRun limits first steps last → times_tried m steps + left_at limits.tries m last ≤ left_at limits.tries m first
  run_left m [] first last run = omega (arith, ap (left_at limits.tries m) run)
  run_left m (step ∷ before) first last run = omega (arith, step_left m run.0 step last run.2, run_left m before first run.0 run.1)

  pub tried_at_most : (steps : List ExchangeStep) (first last : InformExchange) (m : SentMessage) → first.times ≡ 0 → IsExchangeRun limits first steps last → times_tried m steps ≤ limits.tries
  tried_at_most steps first last m anew run =
      let from : left_at limits.tries m first ≡ left limits.tries m first.request.sent 0 = ap (left limits.tries m first.request.sent) anew in
      omega (arith, run_left m steps first last run, from, left_most limits.tries m first.request.sent)

  -- ---- when it is sent again

  wait_due : (x : InformExchange) (heard : Heard) (holds : Bool) (next : NextStep) (new : InformExchange) → ((m : SentMessage) → next ≢ Send m) → HearsAnswer x heard holds next new → new.due ≡ x.due
  wait_due x heard holds (Send n) new never h = absurd (never n refl)
  wait_due x heard holds Answered new never h = h.goes_on.1
  wait_due x heard holds (Refused counter) new never h = h.goes_on.1
  wait_due x heard holds Wait new never h = h.goes_on.1

  waits_due : (before waits : List ExchangeStep) (first last : InformExchange) (m : SentMessage) (then : ℕ) → AreWaits waits → IsExchangeRun limits first (waits ++ sends then m ∷ before) last → last.due ≡ min (then + limits.again) (2 ^ 64 - 1)
  waits_due before [] first last m then waits run = run.2.2.due
  waits_due before (sends other n ∷ others) first last m then waits run = absurd waits.0
  waits_due before (hears what ∷ others) first last m then waits run =
      wait_due run.0 what.heard what.holds_clock what.turn last waits.0 run.2 ∙ waits_due before others first run.0 m then waits.1 run.1

  pub apart : (before waits : List ExchangeStep) (first last : InformExchange) (m n : SentMessage) (then now : ℕ) → AreWaits waits → IsExchangeRun limits first (sends now n ∷ (waits ++ sends then m ∷ before)) last
      → min (then + limits.again) (2 ^ 64 - 1) ≤ now
  apart before waits first last m n then now are run = subst (λ (due : ℕ). due ≤ now) (waits_due before waits first run.0 m then are run.1) run.2.0

  -- ---- what is heard

  pub heard_run : (steps : List ExchangeStep) (first last : InformExchange) → IsExchangeRun limits first steps last → IsHeardRun first.request (heard_in steps) last.request
  heard_run [] first last run = ap (λ (x : InformExchange). x.request) run
  heard_run (sends now n ∷ before) first last run = subst (λ (r : DeviceRequest). IsHeardRun first.request (heard_in before) r) (sym run.2.2.request) (heard_run before first run.0 run.1)
  heard_run (hears what ∷ before) first last run = heard_last (heard_in before) first.request run.0.request what last.request (heard_run before first run.0 run.1) run.2.hears
