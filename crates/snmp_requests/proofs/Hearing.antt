-- What a device is sent for one request.
use Rattle.std.specs.Prelude.{◌≡◌, ◌≢◌, ℕ, ◌+◌, ◌≤◌, Bool, true, false, List, [], ◌∷◌, Option, Some, None, IsSome}
use Rattle.std.proofs.Common.{refl, sym, ap, subst, ◌∙◌, inl, inr, arith}
use Rattle.snmp_ber.specs.declared.level.Level.{Level}
use Rattle.snmp_ber.specs.declared.level.Level.TheVariants.{NoAuthNoPriv, AuthNoPriv, AuthPriv}
use Rattle.snmp_requests.specs.declared.device_request.DeviceRequest.{DeviceRequest}
use Rattle.snmp_requests.specs.declared.device_request.Heard.{Heard}
use Rattle.snmp_requests.specs.declared.device_request.Known.{Known}
use Rattle.snmp_requests.specs.declared.device_request.Known.TheVariants as known
use Rattle.snmp_requests.specs.declared.device_request.SentMessage.{SentMessage}
use Rattle.snmp_requests.specs.declared.device_request.SentMessage.TheVariants.{Discovery, TimeRequest, Request}
use Rattle.snmp_requests.specs.declared.device_request.NextStep.{NextStep}
use Rattle.snmp_requests.specs.declared.device_request.NextStep.TheVariants.{Wait, Send, Answered, Refused}
use Rattle.snmp_requests.specs.DeviceRequests.{Begins, Hears, ended, first_message, to_engine}
use Rattle.snmp_requests.specs.DeviceRequestRuns.{AreUnauthenticated, HearStep, IsHeardRun, IsUnauthenticated, is_sending, is_window_report, times_sent, window_reports}

-- ---- how often a message is sent

-- how often it can still be sent
abbrev left : SentMessage → Option SentMessage → Bool → ℕ
left Request (Some Discovery) again = 2
left Request (Some TimeRequest) again = 2
left Request (Some Request) true = 0
left Request (Some Request) false = 1
left TimeRequest (Some Discovery) again = 1
left m sent again = 0

-- what was sent last can be followed by so many
abbrev left_at : SentMessage → DeviceRequest → ℕ
left_at m x = left m x.sent x.again

engine_left : (m n : SentMessage) (again : Bool) → n ≢ Discovery → is_sending m (Send n) + left m (Some n) again ≤ left m (Some Discovery) again
engine_left m Discovery again other = absurd (other refl)
engine_left Discovery TimeRequest again other = omega arith
engine_left Discovery Request again other = omega arith
engine_left TimeRequest TimeRequest again other = omega arith
engine_left TimeRequest Request again other = omega arith
engine_left Request TimeRequest again other = omega arith
engine_left Request Request true other = omega arith
engine_left Request Request false other = omega arith

time_left : (m : SentMessage) (again : Bool) → is_sending m (Send Request) + left m (Some Request) again ≤ left m (Some TimeRequest) again
time_left Discovery again = omega arith
time_left TimeRequest again = omega arith
time_left Request true = omega arith
time_left Request false = omega arith

window_left : (m : SentMessage) → is_sending m (Send Request) + left m (Some Request) true ≤ left m (Some Request) false
window_left Discovery = omega arith
window_left TimeRequest = omega arith
window_left Request = omega arith

ended_left : (m : SentMessage) (again : Bool) → left m None again ≡ 0
ended_left Discovery again = refl
ended_left TimeRequest again = refl
ended_left Request again = refl

to_engine-other : (level : Level) (holds : Bool) → to_engine level holds ≢ Discovery
to_engine-other NoAuthNoPriv holds e = cc e
to_engine-other AuthNoPriv true e = cc e
to_engine-other AuthNoPriv false e = cc e
to_engine-other AuthPriv true e = cc e
to_engine-other AuthPriv false e = cc e

no_sending : (m : SentMessage) → is_sending m Answered ≡ 0
no_sending Discovery = refl
no_sending TimeRequest = refl
no_sending Request = refl

no_sending_refused : (m : SentMessage) (counter : ℕ) → is_sending m (Refused counter) ≡ 0
no_sending_refused Discovery counter = refl
no_sending_refused TimeRequest counter = refl
no_sending_refused Request counter = refl

no_sending_wait : (m : SentMessage) → is_sending m Wait ≡ 0
no_sending_wait Discovery = refl
no_sending_wait TimeRequest = refl
no_sending_wait Request = refl

over_left : (m : SentMessage) (x new : DeviceRequest) → new ≡ ended x → left_at m new ≡ 0
over_left m x new is = ap (left_at m) is ∙ ended_left m x.again

sent_step : (m : SentMessage) (x : DeviceRequest) (heard : Heard) (holds : Bool) (turn : NextStep) (new : DeviceRequest) → Hears x heard holds turn new → is_sending m turn + left_at m new ≤ left_at m x
sent_step m x heard holds (Send n) new (inl h) =
    let to : left_at m new ≡ left m (Some n) x.again = ap (left_at m) h.2 in
    let from : left_at m x ≡ left m (Some Discovery) x.again = ap (λ sent. left m sent x.again) h.0.asked in
    omega (arith, to, from, engine_left m n x.again (λ e. to_engine-other x.level holds (sym h.1 ∙ e)))
sent_step m x heard holds (Send n) new (inr (inl h)) =
    let to : left_at m new ≡ left m (Some n) x.again = ap (left_at m) h.2 in
    let from : left_at m x ≡ left m (Some TimeRequest) x.again = ap (λ sent. left m sent x.again) h.0.asked in
    let is : is_sending m (Send n) + left m (Some n) x.again ≡ is_sending m (Send Request) + left m (Some Request) x.again = ap (λ k. is_sending m (Send k) + left m (Some k) x.again) h.1 in
    omega (arith, to, from, is, time_left m x.again)
sent_step m x heard holds (Send n) new (inr (inr h)) =
    let to : left_at m new ≡ left m (Some n) true = ap (left_at m) h.2 in
    let from : left_at m x ≡ left m (Some Request) false = ap (λ sent. left m sent x.again) h.0.asked ∙ ap (left m (Some Request)) h.0.first in
    let is : is_sending m (Send n) + left m (Some n) true ≡ is_sending m (Send Request) + left m (Some Request) true = ap (λ k. is_sending m (Send k) + left m (Some k) true) h.1 in
    omega (arith, to, from, is, window_left m)
sent_step m x heard holds Answered new h = omega (arith, no_sending m, over_left m x new h.1)
sent_step m x heard holds (Refused counter) new h = omega (arith, no_sending_refused m counter, over_left m x new h.1)
sent_step m x heard holds Wait new h = omega (arith, no_sending_wait m, ap (left_at m) h.1)

run_sent : (m : SentMessage) (steps : List HearStep) (first last : DeviceRequest) → IsHeardRun first steps last → times_sent m steps + left_at m last ≤ left_at m first
run_sent m [] first last run = omega (arith, ap (left_at m) run)
run_sent m (step ∷ steps) first last run =
    omega (arith, sent_step m first step.heard step.holds_clock step.turn run.0 run.1, run_sent m steps run.0 last run.2)

-- how often a message is sent at most
abbrev pub most : SentMessage → ℕ
most Discovery = 1
most TimeRequest = 1
most Request = 2

most_first : (m n : SentMessage) → is_sending m (Send n) + left m (Some n) false ≤ most m
most_first Discovery Discovery = omega arith
most_first Discovery TimeRequest = omega arith
most_first Discovery Request = omega arith
most_first TimeRequest Discovery = omega arith
most_first TimeRequest TimeRequest = omega arith
most_first TimeRequest Request = omega arith
most_first Request Discovery = omega arith
most_first Request TimeRequest = omega arith
most_first Request Request = omega arith

pub sent_at_most : (m : SentMessage) (level : Level) (n : SentMessage) (steps : List HearStep) (first last : DeviceRequest) → Begins level n first → IsHeardRun first steps last
    → is_sending m (Send n) + times_sent m steps ≤ most m
sent_at_most m level n steps first last begins run =
    let from : left_at m first ≡ left m (Some n) false = ap (λ sent. left m sent first.again) begins.sent.sent_is ∙ ap (left m (Some n)) begins.again_is in
    omega (arith, run_sent m steps first last run, from, most_first m n)

-- ---- why the request is sent again

abbrev free : Option SentMessage → ℕ
free (Some Discovery) = 1
free (Some TimeRequest) = 1
free (Some Request) = 0
free None = 0

free_most : (n : SentMessage) → is_sending Request (Send n) + free (Some n) ≤ 1
free_most Discovery = omega arith
free_most TimeRequest = omega arith
free_most Request = omega arith

reason_step : (x : DeviceRequest) (heard : Heard) (holds : Bool) (turn : NextStep) (new : DeviceRequest) → Hears x heard holds turn new
    → is_sending Request turn + free new.sent ≤ free x.sent + is_window_report heard
reason_step x heard holds (Send n) new (inl h) = omega (arith, ap (λ (y : DeviceRequest). free y.sent) h.2, ap free h.0.asked, free_most n)
reason_step x heard holds (Send n) new (inr (inl h)) = omega (arith, ap (λ (y : DeviceRequest). free y.sent) h.2, ap free h.0.asked, free_most n)
reason_step x heard holds (Send n) new (inr (inr h)) = omega (arith, ap (λ (y : DeviceRequest). free y.sent) h.2, ap free h.0.asked, free_most n, ap is_window_report h.0.heard_is)
reason_step x heard holds Answered new h = omega (arith, ap (λ (y : DeviceRequest). free y.sent) h.1)
reason_step x heard holds (Refused counter) new h = omega (arith, ap (λ (y : DeviceRequest). free y.sent) h.1)
reason_step x heard holds Wait new h = omega (arith, ap (λ (y : DeviceRequest). free y.sent) h.1)

run_reason : (steps : List HearStep) (first last : DeviceRequest) → IsHeardRun first steps last → times_sent Request steps + free last.sent ≤ free first.sent + window_reports steps
run_reason [] first last run = omega (arith, ap (λ (y : DeviceRequest). free y.sent) run)
run_reason (step ∷ steps) first last run =
    omega (arith, reason_step first step.heard step.holds_clock step.turn run.0 run.1, run_reason steps run.0 last run.2)

pub again_by_report : (level : Level) (n : SentMessage) (steps : List HearStep) (first last : DeviceRequest) → Begins level n first → IsHeardRun first steps last
    → is_sending Request (Send n) + times_sent Request steps ≤ 1 + window_reports steps
again_by_report level n steps first last begins run = omega (arith, run_reason steps first last run, ap free begins.sent.sent_is, free_most n)

-- ---- at which level

level_step : (x : DeviceRequest) (heard : Heard) (holds : Bool) (turn : NextStep) (new : DeviceRequest) → Hears x heard holds turn new → new.level ≡ x.level
level_step x heard holds (Send n) new (inl h) = ap (λ (y : DeviceRequest). y.level) h.2
level_step x heard holds (Send n) new (inr (inl h)) = ap (λ (y : DeviceRequest). y.level) h.2
level_step x heard holds (Send n) new (inr (inr h)) = ap (λ (y : DeviceRequest). y.level) h.2
level_step x heard holds Answered new h = ap (λ (y : DeviceRequest). y.level) h.1
level_step x heard holds (Refused counter) new h = ap (λ (y : DeviceRequest). y.level) h.1
level_step x heard holds Wait new h = ap (λ (y : DeviceRequest). y.level) h.1

pub run_level : (steps : List HearStep) (first last : DeviceRequest) → IsHeardRun first steps last → last.level ≡ first.level
run_level [] first last run = ap (λ (y : DeviceRequest). y.level) run
run_level (step ∷ steps) first last run = run_level steps run.0 last run.2 ∙ level_step first step.heard step.holds_clock step.turn run.0 run.1

-- boots and time are asked for with authentication alone
abbrev HasAuth : DeviceRequest → Type 0
HasAuth x = x.sent ≡ Some TimeRequest → x.level ≢ NoAuthNoPriv

to_engine-auth : (level : Level) (holds : Bool) → to_engine level holds ≡ TimeRequest → level ≢ NoAuthNoPriv
to_engine-auth NoAuthNoPriv holds is same = cc is
to_engine-auth AuthNoPriv holds is same = cc same
to_engine-auth AuthPriv holds is same = cc same

first-auth : (level : Level) (k : Known) → first_message level k ≡ TimeRequest → level ≢ NoAuthNoPriv
first-auth level known.Nothing is same = cc is
first-auth level known.Engine is same = to_engine-auth level false is same
first-auth level known.Clock is same = to_engine-auth level true is same

some_same : {X : Type 0} (a b : X) → Some a ≡ Some b → a ≡ b
some_same a b e = cc e

auth_step : (x : DeviceRequest) (heard : Heard) (holds : Bool) (turn : NextStep) (new : DeviceRequest) → HasAuth x → Hears x heard holds turn new → HasAuth new
auth_step x heard holds (Send n) new auth (inl h) =
    subst HasAuth (sym h.2) (λ is. to_engine-auth x.level holds (sym h.1 ∙ some_same n TimeRequest is))
auth_step x heard holds (Send n) new auth (inr (inl h)) =
    subst HasAuth (sym h.2) (λ is. let wrong : Request ≡ TimeRequest = sym h.1 ∙ some_same n TimeRequest is in cc wrong)
auth_step x heard holds (Send n) new auth (inr (inr h)) =
    subst HasAuth (sym h.2) (λ is. let wrong : Request ≡ TimeRequest = sym h.1 ∙ some_same n TimeRequest is in cc wrong)
auth_step x heard holds Answered new auth h = subst HasAuth (sym h.1) (λ is. cc is)
auth_step x heard holds (Refused counter) new auth h = subst HasAuth (sym h.1) (λ is. cc is)
auth_step x heard holds Wait new auth h = subst HasAuth (sym h.1) auth

run_auth : (steps : List HearStep) (first last : DeviceRequest) → HasAuth first → IsHeardRun first steps last → HasAuth last
run_auth [] first last auth run = subst HasAuth (sym run) auth
run_auth (step ∷ steps) first last auth run =
    run_auth steps run.0 last (auth_step first step.heard step.holds_clock step.turn run.0 auth run.1) run.2

pub time_with_auth : (level : Level) (k : Known) (steps : List HearStep) (first last : DeviceRequest) → Begins level (first_message level k) first → IsHeardRun first steps last
    → last.sent ≡ Some TimeRequest → level ≢ NoAuthNoPriv
time_with_auth level k steps first last begins run asked same =
    let begun : HasAuth first = λ is at. first-auth level k (some_same (first_message level k) TimeRequest (sym begins.sent.sent_is ∙ is)) (sym begins.sent.level_is ∙ at) in
    run_auth steps first last begun run asked (run_level steps first last run ∙ begins.sent.level_is ∙ same)

-- ---- what ends it

open_step : (x : DeviceRequest) (heard : Heard) (holds : Bool) (turn : NextStep) (new : DeviceRequest) → IsSome x.sent → IsUnauthenticated heard → Hears x heard holds turn new → IsSome new.sent
open_step x heard holds (Send n) new waits is (inl h) = subst (λ (y : DeviceRequest). IsSome y.sent) (sym h.2) refl
open_step x heard holds (Send n) new waits is (inr (inl h)) = subst (λ (y : DeviceRequest). IsSome y.sent) (sym h.2) refl
open_step x heard holds (Send n) new waits is (inr (inr h)) = subst (λ (y : DeviceRequest). IsSome y.sent) (sym h.2) refl
open_step x heard holds Answered new waits is h = absurd (subst IsUnauthenticated h.0.heard_is is)
open_step x heard holds (Refused counter) new waits is h =
    let wrong : true ≡ false = subst IsUnauthenticated h.0.heard_is is in cc wrong
open_step x heard holds Wait new waits is h = subst (λ (y : DeviceRequest). IsSome y.sent) (sym h.1) waits

run_open : (steps : List HearStep) (first last : DeviceRequest) → IsSome first.sent → AreUnauthenticated steps → IsHeardRun first steps last → IsSome last.sent
run_open [] first last waits are run = subst (λ (y : DeviceRequest). IsSome y.sent) (sym run) waits
run_open (step ∷ steps) first last waits are run =
    run_open steps run.0 last (open_step first step.heard step.holds_clock step.turn run.0 waits are.0 run.1) are.1 run.2

pub open_by_hints : (level : Level) (n : SentMessage) (steps : List HearStep) (first last : DeviceRequest) → Begins level n first → AreUnauthenticated steps → IsHeardRun first steps last
    → IsSome last.sent
open_by_hints level n steps first last begins are run =
    run_open steps first last (subst (λ sent. IsSome sent) (sym begins.sent.sent_is) refl) are run
