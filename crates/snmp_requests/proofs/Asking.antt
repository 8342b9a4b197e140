-- A manager's requests, over runs of steps.
use Rattle.std.specs.Prelude.{◌≡◌, ◌≢◌, ◌⊎◌, ℕ, ◌+◌, ◌<◌, ◌≤◌, cond, List, [], ◌∷◌, Option, Some, None}
use Rattle.std.proofs.Common.{refl, sym, ap, subst, ◌∙◌, inl, inr, arith}
use Rattle.std.proofs.lemmas.Bool.Decides.{eqb_tells}
use Rattle.std.specs.FinMap as map
use Rattle.snmp_requests.specs.declared.device_request.Heard.{Heard}
use Rattle.snmp_requests.specs.declared.device_request.Heard.TheVariants.{Response, Report}
use Rattle.snmp_requests.specs.declared.outstanding.OutstandingRequest.{OutstandingRequest}
use Rattle.snmp_requests.specs.Answering.{left_after}
use Rattle.snmp_requests.specs.Outstanding.{AreOutstanding, Outstanding, Waits, message_id_of, without}
use Rattle.snmp_requests.specs.RequestRuns.{IsRequestRun, RequestStep, Steps, accepts, asked_by, asks, ended_by, gives_up, is_request, is_response_told, is_token, told_by, times_asked, times_ended, times_told, times_waiting}
use Rattle.snmp_requests.proofs.Maps.{insert_apart, insert_here, remove_apart, remove_here}
use Rattle.snmp_requests.proofs.Outstandings.{are_added, are_ended, are_without}

-- ---- one token

is_token-same : (token : ℕ) → is_token token token ≡ 1
is_token-same token = elim (eqb_tells token token) [
  | inl (test, same) ↦ ap (λ b. cond b 1 0) test
  | inr (test, differs) ↦ absurd (differs refl)
]

is_token-other : (token other : ℕ) → other ≢ token → is_token token other ≡ 0
is_token-other token other differs = elim (eqb_tells other token) [
  | inl (test, same) ↦ absurd (differs same)
  | inr (test, apart) ↦ ap (λ b. cond b 1 0) test
]

is_token-id : (token other : ℕ) → message_id_of token ≢ message_id_of other → is_token token other ≡ 0
is_token-id token other differs = is_token-other token other (λ same. differs (ap message_id_of (sym same)))

-- the request with a token waits once, or not at all
waits_once : (token : ℕ) (all : Outstanding) → Waits all token → times_waiting token all ≡ 1
waits_once token all waits =
    ap (is_request token) waits.there ∙ ap (is_token token) waits.token_is ∙ is_token-same token

waiting_most : (token : ℕ) (o : Option OutstandingRequest) → is_request token o ≤ 1
waiting_most token None = omega arith
waiting_most token (Some r) = elim (eqb_tells r.token token) [
  | inl (test, same) ↦ omega (arith, ap (is_token token) same, is_token-same token)
  | inr (test, apart) ↦ omega (arith, is_token-other token r.token apart)
]

-- one that waits was given its token
waiting_given : (token : ℕ) (all : Outstanding) (o : Option OutstandingRequest) → AreOutstanding all → map.get all.requests (message_id_of token) ≡ o → is_request token o ≡ 1
    → token < all.next
waiting_given token all None are there one = absurd (omega (arith, one))
waiting_given token all (Some r) are there one = elim (eqb_tells r.token token) [
  | inl (test, same) ↦ omega (arith, same, (are.by_id (message_id_of token) r there).given)
  | inr (test, apart) ↦ absurd (omega (arith, one, is_token-other token r.token apart))
]

-- ---- one step

-- one more waits
added_counts : (token other : ℕ) (old new : Outstanding) (request : OutstandingRequest) → map.get old.requests (message_id_of other) ≡ None → request.token ≡ other
    → new.requests ≡ map.insert old.requests (message_id_of other) request → times_waiting token new ≡ times_waiting token old + is_token token other
added_counts token other old new request free is new_is = elim (eqb_tells (message_id_of token) (message_id_of other)) [
  | inl (test, same) ↦
      let now : times_waiting token new ≡ is_token token other =
      ap (λ requests. is_request token (map.get requests (message_id_of token))) new_is
      ∙ ap (λ id. is_request token (map.get (map.insert old.requests (message_id_of other) request) id)) same
      ∙ ap (is_request token) (insert_here old.requests (message_id_of other) request) ∙ ap (is_token token) is in
      let before : times_waiting token old ≡ 0 = ap (λ id. is_request token (map.get old.requests id)) same ∙ ap (is_request token) free in
      omega (arith, now, before)
  | inr (test, apart) ↦
      let now : times_waiting token new ≡ times_waiting token old =
      ap (λ requests. is_request token (map.get requests (message_id_of token))) new_is
      ∙ ap (is_request token) (insert_apart old.requests (message_id_of other) request (message_id_of token) apart) in
      omega (arith, now, is_token-id token other apart)
]

-- one waits no more
ended_counts : (token other : ℕ) (old new : Outstanding) → Waits old other → new ≡ without old (message_id_of other) → times_waiting token new + is_token token other ≡ times_waiting token old
ended_counts token other old new waits new_is = elim (eqb_tells (message_id_of token) (message_id_of other)) [
  | inl (test, same) ↦
      let now : times_waiting token new ≡ 0 =
      ap (λ (all : Outstanding). is_request token (map.get all.requests (message_id_of token))) new_is
      ∙ ap (λ id. is_request token (map.get (map.remove old.requests (message_id_of other)) id)) same
      ∙ ap (is_request token) (remove_here old.requests (message_id_of other)) in
      let before : times_waiting token old ≡ is_token token other =
      ap (λ id. is_request token (map.get old.requests id)) same ∙ ap (is_request token) waits.there ∙ ap (is_token token) waits.token_is in
      omega (arith, now, before)
  | inr (test, apart) ↦
      let now : times_waiting token new ≡ times_waiting token old =
      ap (λ (all : Outstanding). is_request token (map.get all.requests (message_id_of token))) new_is
      ∙ ap (is_request token) (remove_apart old.requests (message_id_of other) (message_id_of token) apart) in
      omega (arith, now, is_token-id token other apart)
]

heard_counts : (token other : ℕ) (heard : Heard) (old new : Outstanding) → Waits old other → new ≡ left_after heard other old
    → times_waiting token new + is_response_told token other heard ≡ times_waiting token old
heard_counts token other Response old new waits new_is = ended_counts token other old new waits new_is
heard_counts token other (Report counter authentic) old new waits new_is = omega (arith, ap (times_waiting token) new_is)

step_counts : (token : ℕ) (step : RequestStep) (old new : Outstanding) → Steps old step new → times_waiting token new + ended_by token step ≡ times_waiting token old + asked_by token step
step_counts token (asks first other pending) old new h =
    omega (arith, added_counts token other old new h.2.request h.1.is_free.free h.2.request_is.token_is (ap (λ (all : Outstanding). all.requests) h.2.new_is))
step_counts token (accepts g c p None) old new h = omega (arith, ap (times_waiting token) h.1)
step_counts token (accepts g c p (Some told)) old new h =
    let waits : Waits old told.token = record { request = h.0.request; there = h.0.there; token_is = h.0.token_is } in
    omega (arith, heard_counts token told.token told.heard old new waits h.1)
step_counts token (gives_up other) old new h = omega (arith, ended_counts token other old new h.was h.new_is)

heard_are : (other : ℕ) (heard : Heard) (old new : Outstanding) → AreOutstanding old → new ≡ left_after heard other old → AreOutstanding new
heard_are other Response old new are new_is = subst AreOutstanding (sym new_is) (are_without old (message_id_of other) are)
heard_are other (Report counter authentic) old new are new_is = subst AreOutstanding (sym new_is) are

pub step_are : (step : RequestStep) (old new : Outstanding) → AreOutstanding old → Steps old step new → AreOutstanding new
step_are (asks first token pending) old new are h = are_added old new token pending are h.1.is_free h.0 h.2
step_are (accepts g c p None) old new are h = subst AreOutstanding (sym h.1) are
step_are (accepts g c p (Some told)) old new are h = heard_are told.token told.heard old new are h.1
step_are (gives_up token) old new are h = are_ended old new token are h

heard_next : (other : ℕ) (heard : Heard) (old new : Outstanding) → new ≡ left_after heard other old → new.next ≡ old.next
heard_next other Response old new new_is = ap (λ (all : Outstanding). all.next) new_is
heard_next other (Report counter authentic) old new new_is = ap (λ (all : Outstanding). all.next) new_is

next_rises : (step : RequestStep) (old new : Outstanding) → Steps old step new → old.next ≤ new.next
next_rises (asks first token pending) old new h = omega (arith, h.1.is_free.new, ap (λ (all : Outstanding). all.next) h.2.new_is)
next_rises (accepts g c p None) old new h = omega (arith, ap (λ (all : Outstanding). all.next) h.1)
next_rises (accepts g c p (Some told)) old new h = omega (arith, heard_next told.token told.heard old new h.1)
next_rises (gives_up token) old new h = omega (arith, ap (λ (all : Outstanding). all.next) h.new_is)

-- a token that was given isn't given again
asked_later : (token : ℕ) (step : RequestStep) (old new : Outstanding) → token < old.next → Steps old step new → asked_by token step ≡ 0
asked_later token (asks first other pending) old new below h = is_token-other token other (λ same. omega (arith, below, h.1.is_free.new, same))
asked_later token (accepts g c p told) old new below h = refl
asked_later token (gives_up other) old new below h = refl

-- the token that is given is below the next one
asked_given : (token : ℕ) (step : RequestStep) (old new : Outstanding) → Steps old step new → (asked_by token step ≡ 0) ⊎ ((asked_by token step ≡ 1) × (token < new.next))
asked_given token (asks first other pending) old new h = elim (eqb_tells other token) [
  | inl (test, same) ↦ inr (ap (λ b. cond b 1 0) test, omega (arith, same, ap (λ (all : Outstanding). all.next) h.2.new_is))
  | inr (test, apart) ↦ inl (is_token-other token other apart)
]
asked_given token (accepts g c p told) old new h = inl refl
asked_given token (gives_up other) old new h = inl refl

-- ---- runs

pub run_are : (steps : List RequestStep) (first last : Outstanding) → AreOutstanding first → IsRequestRun first steps last → AreOutstanding last
run_are [] first last are run = subst AreOutstanding (sym run) are
run_are (step ∷ steps) first last are run = run_are steps run.0 last (step_are step first run.0 are run.1) run.2

pub run_counts : (token : ℕ) (steps : List RequestStep) (first last : Outstanding) → IsRequestRun first steps last
    → times_ended token steps + times_waiting token last ≡ times_waiting token first + times_asked token steps
run_counts token [] first last run = omega (arith, ap (times_waiting token) run)
run_counts token (step ∷ steps) first last run = omega (arith, step_counts token step first run.0 run.1, run_counts token steps run.0 last run.2)

never_asked : (token : ℕ) (steps : List RequestStep) (first last : Outstanding) → token < first.next → IsRequestRun first steps last → times_asked token steps ≡ 0
never_asked token [] first last below run = refl
never_asked token (step ∷ steps) first last below run =
    omega (arith, asked_later token step first run.0 below run.1, never_asked token steps run.0 last (omega (arith, below, next_rises step first run.0 run.1)) run.2)

pub asked_once : (token : ℕ) (steps : List RequestStep) (first last : Outstanding) → IsRequestRun first steps last → times_asked token steps ≤ 1
asked_once token [] first last run = omega arith
asked_once token (step ∷ steps) first last run = elim (asked_given token step first run.0 run.1) [
  | inl none ↦ omega (arith, none, asked_once token steps run.0 last run.2)
  | inr (one, below) ↦ omega (arith, one, never_asked token steps run.0 last below run.2)
]

-- ---- once a request has ended

not_told : (token : ℕ) (step : RequestStep) (old new : Outstanding) → times_waiting token old ≡ 0 → Steps old step new → told_by token step ≡ 0
not_told token (asks first other pending) old new none h = refl
not_told token (accepts g c p None) old new none h = refl
not_told token (accepts g c p (Some told)) old new none h = is_token-other token told.token (λ same.
    let waits : Waits old token = record {
      request = h.0.request;
      there = ap (λ t. map.get old.requests (message_id_of t)) (sym same) ∙ h.0.there;
      token_is = h.0.token_is ∙ same;
    } in omega (arith, none, waits_once token old waits))
not_told token (gives_up other) old new none h = refl

silent : (token : ℕ) (steps : List RequestStep) (first last : Outstanding) → times_waiting token first ≡ 0 → token < first.next → IsRequestRun first steps last → times_told token steps ≡ 0
silent token [] first last none below run = refl
silent token (step ∷ steps) first last none below run =
    let later : times_waiting token run.0 ≡ 0 = omega (arith, step_counts token step first run.0 run.1, asked_later token step first run.0 below run.1, none) in
    let rest = silent token steps run.0 last later (omega (arith, below, next_rises step first run.0 run.1)) run.2 in
    omega (arith, not_told token step first run.0 none run.1, rest)

-- a step that ends a request asks none
ends_alone : (token : ℕ) (step : RequestStep) → ended_by token step ≡ 1 → asked_by token step ≡ 0
ends_alone token (asks first other pending) one = absurd (omega (arith, one))
ends_alone token (accepts g c p told) one = refl
ends_alone token (gives_up other) one = refl

pub gone : (token : ℕ) (step : RequestStep) (after : List RequestStep) (old new last : Outstanding) → AreOutstanding old → Steps old step new → ended_by token step ≡ 1
    → IsRequestRun new after last → times_told token after ≡ 0
gone token step after old new last are h one run =
    let counts = step_counts token step old new h in
    let most = waiting_most token (map.get old.requests (message_id_of token)) in
    let none = ends_alone token step one in
    let was : times_waiting token old ≡ 1 = omega (arith, counts, most, one, none) in
    let now : times_waiting token new ≡ 0 = omega (arith, counts, most, one, none) in
    let below : token < old.next = waiting_given token old (map.get old.requests (message_id_of token)) are refl was in
    silent token after new last now (omega (arith, below, next_rises step old new h)) run
