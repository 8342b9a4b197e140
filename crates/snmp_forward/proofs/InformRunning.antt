-- Runs of Informs, and what is true of one of them.
use Rattle.std.specs.Prelude.{◌≡◌, ◌<◌, ◌≤◌, ◌+◌, ◌-◌, ◌^◌, ℕ, Bool, true, false, cond, List, [], ◌∷◌, ◌++◌, All, Some, min}
use Rattle.std.proofs.Common.{refl, sym, ap, subst, ◌∙◌, inl, inr, ◌⊎◌, arith}
use Rattle.std.proofs.lemmas.Bool.Decides.{eqb_tells}
use Rattle.std.proofs.lemmas.List.Elements.{All-head, All-tail}
use Rattle.snmp_requests.specs.DeviceRequestRuns.{HearStep}
use Rattle.snmp_requests.specs.DeviceRequests.{Hears}
use Rattle.snmp_requests.specs.declared.device_request.Heard.{Heard}
use Rattle.snmp_requests.specs.declared.device_request.NextStep.{NextStep}
use Rattle.snmp_requests.specs.declared.device_request.NextStep.TheVariants.{Wait, Send, Answered, Refused}
use Rattle.snmp_requests.specs.declared.device_request.SentMessage.{SentMessage}
use Rattle.snmp_requests.specs.declared.device_request.SentMessage.TheVariants.{Request}
use Rattle.snmp_forward.specs.ExchangeRuns.{ExchangeStep, IsExchangeRun, hears, sends, times_tried}
use Rattle.snmp_forward.specs.InformHistory.{Accepted, AreInformsLawful, InformHappening, InformKnown, InformSetting, IsAnswer, IsHeardIn, IsInformLawful, answers, asked_with, asks, begins, ends, inform_of, is_end, known_after, known_of, refused}
use Rattle.snmp_forward.specs.InformRuns.{answered_by, InformEvent, IsInformHistoryOf, IsInformRun, IsOwnResponse, acknowledged, answered_in, asked_in, begun_in, comes, finds_no_memory, goes_out, informs_of, receives, times_ended, went_out}
use Rattle.snmp_forward.specs.InformStanding.{InformHappens, InformSendHappens, InformsStand, InformsStay, IsGoingOn, KeepsRequests, ReceiverHappens, accepted_at, setting_of}
use Rattle.snmp_forward.specs.declared.exchange.InformExchange.{InformExchange}
use Rattle.snmp_forward.specs.declared.inform.Inform.{Inform}
use Rattle.snmp_forward.specs.declared.informs.InformSent.{InformSent}
use Rattle.snmp_forward.specs.declared.informs.InformSent.TheVariants as out
use Rattle.snmp_forward.specs.declared.informs.Informs.{Informs}
use Rattle.snmp_forward.specs.declared.informs.ReceiverTaken.{ReceiverTaken}
use Rattle.snmp_forward.specs.declared.informs.ReceiverTaken.TheVariants as taken
use Rattle.snmp_forward.proofs.Exchanges.{tried_at_most}
use Rattle.snmp_forward.proofs.InformKeeping.{keeps_all, known_other, known_same, still}
use Rattle.snmp_forward.proofs.Keeping.{other}

-- ---- the Response to an Inform

some_one : (a b : SentMessage) → Some a ≡ Some b → a ≡ b
some_one a b e = cc e

pub own_response : (s : InformSetting) (before : List InformHappening) (n : ℕ) (what : Accepted) (heard : HearStep) → IsAnswer s before n what heard → heard.turn ≡ Answered → IsOwnResponse before n what
own_response s before n what heard is ended =
    let hears : Hears is.at.request heard.heard heard.holds_clock Answered is.next.request = subst (λ (t : NextStep). Hears is.at.request heard.heard heard.holds_clock t is.next.request) ended is.goes_on.hears in
    let message : is.asked.message ≡ Request = some_one is.asked.message Request (sym is.is_sent ∙ hears.0.asked) in record {
      inform = is.inform;
      is_begun = is.stands.is_begun;
      from = is.from;
      pending = is.asked.pending;
      is_asked = is.is_asked ∙ ap (λ (m : SentMessage). Some (asked_with m is.asked.pending)) message;
      is_response = subst (λ (h : Heard). IsHeardIn is.asked.pending what.given h) hears.0.heard_is is.is_heard;
    }

-- ---- it ends once

abbrev counted : Bool → ℕ
counted over = cond over 1 0

none_ended : (n : ℕ) (before : List InformHappening) → All (λ (e : InformHappening). inform_of e < n) before → times_ended n before ≡ 0
none_ended n [] less = refl
none_ended n (begins k i ∷ before) less = omega (arith, none_ended n before (All-tail (λ (e : InformHappening). inform_of e < n) (begins k i) before less))
none_ended n (asks k r now m held by pending w ∷ before) less = omega (arith, none_ended n before (All-tail (λ (e : InformHappening). inform_of e < n) (asks k r now m held by pending w) before less))
none_ended n (answers k what heard ∷ before) less =
    let head = All-head (λ (e : InformHappening). inform_of e < n) (answers k what heard) before less in
    let none = other n k (counted (is_end heard.turn)) 0 (λ is. absurd (omega (arith, head, is))) in
    omega (arith, none, none_ended n before (All-tail (λ (e : InformHappening). inform_of e < n) (answers k what heard) before less))
none_ended n (ends k r now why ∷ before) less =
    let head = All-head (λ (e : InformHappening). inform_of e < n) (ends k r now why) before less in
    let none = other {A = ℕ} n k 1 0 (λ is. absurd (omega (arith, head, is))) in
    omega (arith, none, none_ended n before (All-tail (λ (e : InformHappening). inform_of e < n) (ends k r now why) before less))

abbrev pub IsOnce : ℕ → List InformHappening → Type 0
IsOnce n history = times_ended n history ≤ counted (known_of n history).over

counted_most : (b : Bool) → counted b ≤ 1
counted_most true = omega arith
counted_most false = omega arith

module _ (s : InformSetting) where
  once_step : (n : ℕ) (e : InformHappening) (before : List InformHappening) → IsInformLawful s before e → IsOnce n before → IsOnce n (e ∷ before)
  once_step n (begins k i) before lawful is = elim (eqb_tells n k) [
    | inl (test, one) ↦
        let none = none_ended n before (subst (λ (m : ℕ). All (λ (e : InformHappening). inform_of e < m) before) (sym one) lawful) in
        omega (arith, none)
    | inr (test, different) ↦ let known = ap (λ (k : InformKnown). counted k.over) (known_other n (begins k i) before different) in omega (arith, is, known)
  ]
  once_step n (asks k r now m held by pending w) before lawful is = elim (eqb_tells n k) [
    | inl (test, one) ↦ let known = ap (λ (x : InformKnown). counted x.over) (known_same n (asks k r now m held by pending w) before one) in omega (arith, is, known)
    | inr (test, different) ↦ let known = ap (λ (x : InformKnown). counted x.over) (known_other n (asks k r now m held by pending w) before different) in omega (arith, is, known)
  ]
  once_step n (answers k what heard) before lawful is = elim (eqb_tells n k) [
    | inl (test, one) ↦
        let known = ap (λ (x : InformKnown). counted x.over) (known_same n (answers k what heard) before one) in
        let never = ap (λ (m : ℕ). counted (known_of m before).over) one ∙ ap counted lawful.stands.not_over in
        let here = ap (λ (b : Bool). cond b (counted (is_end heard.turn)) 0) test in
        omega (arith, is, known, never, here)
    | inr (test, different) ↦
        let known = ap (λ (x : InformKnown). counted x.over) (known_other n (answers k what heard) before different) in
        let here = ap (λ (b : Bool). cond b (counted (is_end heard.turn)) 0) test in
        omega (arith, is, known, here)
  ]
  once_step n (ends k r now why) before lawful is = elim (eqb_tells n k) [
    | inl (test, one) ↦
        let known = ap (λ (x : InformKnown). counted x.over) (known_same n (ends k r now why) before one) in
        let never = ap (λ (m : ℕ). counted (known_of m before).over) one ∙ ap counted lawful.stands.not_over in
        let here = ap {B = ℕ} (λ (b : Bool). cond b 1 0) test in
        omega (arith, is, known, never, here)
    | inr (test, different) ↦
        let known = ap (λ (x : InformKnown). counted x.over) (known_other n (ends k r now why) before different) in
        let here = ap {B = ℕ} (λ (b : Bool). cond b 1 0) test in
        omega (arith, is, known, here)
  ]

  once : (n : ℕ) (history : List InformHappening) → AreInformsLawful s history → IsOnce n history
  once n [] lawful = omega arith
  once n (e ∷ before) lawful = once_step n e before lawful.0 (once n before lawful.1)

  pub ends_once : (n : ℕ) (history : List InformHappening) → AreInformsLawful s history → times_ended n history ≤ 1
  ends_once n history lawful = omega (arith, once n history lawful, counted_most (known_of n history).over)

  -- ---- its tries

  -- what was sent and heard of it is a run
  record HasRun (steps : List ExchangeStep) : Type 0 where
    first : InformExchange
    anew : first.times ≡ 0
    last : InformExchange
    run : IsExchangeRun s.limits first steps last

  abbrev sent_at : InformExchange → ℕ → InformExchange
  sent_at x now = record { request = x.request; times = x.times + 1; due = min (now + s.limits.again) (2 ^ 64 - 1) }

  abbrev Runs : ℕ → List InformHappening → Type 0
  Runs n history = ((known_of n history).steps ≡ []) ⊎ HasRun (known_of n history).steps

  runs_as : (k l : InformKnown) → k ≡ l → (l.steps ≡ []) ⊎ HasRun l.steps → (k.steps ≡ []) ⊎ HasRun k.steps
  runs_as k l is has = subst (λ (x : InformKnown). (x.steps ≡ []) ⊎ HasRun x.steps) (sym is) has

  answer_runs : (before : List InformHappening) (k : ℕ) (what : Accepted) (heard : HearStep) → IsAnswer s before k what heard → HasRun (hears heard ∷ (known_of k before).steps)
  answer_runs before k what heard lawful = record {
    first = lawful.stands.first;
    anew = lawful.stands.anew;
    last = lawful.next;
    run = (lawful.at, lawful.stands.run, lawful.goes_on);
  }

  runs_step : (n : ℕ) (e : InformHappening) (before : List InformHappening) → IsInformLawful s before e → Runs n before → n ≡ inform_of e → Runs n (e ∷ before)
  runs_step n (begins k i) before lawful runs one = runs_as (known_of n (begins k i ∷ before)) (known_after (begins k i) (known_of n before)) (known_same n (begins k i) before one) (inl refl)
  runs_step n (asks k r now m held by pending w) before lawful runs one =
      let e = asks k r now m held by pending w in
      runs_as (known_of n (e ∷ before)) (known_after e (known_of n before)) (known_same n e before one)
      (inr (subst (λ (j : ℕ). HasRun (sends now m ∷ (known_of j before).steps)) (sym one) (record {
        first = lawful.stands.first;
        anew = lawful.stands.anew;
        last = sent_at lawful.at now;
        run = (lawful.at, lawful.stands.run, (lawful.due, lawful.may, record { request = refl; times = refl; due = refl }));
      })))
  runs_step n (answers k what heard) before lawful runs one =
      let e = answers k what heard in
      runs_as (known_of n (e ∷ before)) (known_after e (known_of n before)) (known_same n e before one)
      (inr (subst (λ (j : ℕ). HasRun (hears heard ∷ (known_of j before).steps)) (sym one) (answer_runs before k what heard lawful)))
  runs_step n (ends k r now why) before lawful runs one =
      let e = ends k r now why in
      runs_as (known_of n (e ∷ before)) (known_after e (known_of n before)) (known_same n e before one) runs

  runs : (n : ℕ) (history : List InformHappening) → AreInformsLawful s history → Runs n history
  runs n [] lawful = inl refl
  runs n (e ∷ before) lawful = elim (eqb_tells n (inform_of e)) [
    | inl (test, one) ↦ runs_step n e before lawful.0 (runs n before lawful.1) one
    | inr (test, different) ↦ runs_as (known_of n (e ∷ before)) (known_of n before) (known_other n e before different) (runs n before lawful.1)
  ]

  pub within_tries : (n : ℕ) (m : SentMessage) (history : List InformHappening) → AreInformsLawful s history → times_tried m (known_of n history).steps ≤ s.limits.tries
  within_tries n m history lawful = elim (runs n history lawful) [
    | inl none ↦ subst (λ (steps : List ExchangeStep). times_tried m steps ≤ s.limits.tries) (sym none) (omega arith)
    | inr run ↦ tried_at_most s.limits (known_of n history).steps run.first run.last m run.anew run.run
  ]

-- ---- a run has a history

setting_same : (a b : Informs) → InformsStay a b → setting_of b ≡ setting_of a
setting_same a b stays = λ i. record { limits = stays.limits i; users = stays.users i; own = stays.engine i }

stays_on : (a b c : Informs) → InformsStay a b → InformsStay b c → InformsStay a c
stays_on a b c first second = record {
  engine = second.engine ∙ first.engine;
  users = second.users ∙ first.users;
  limits = second.limits ∙ first.limits;
  most = second.most ∙ first.most;
}

pub record RunStands (first : Informs) (events : List InformEvent) (last : Informs) : Type 0 where
  pub history : List InformHappening
  pub is : IsInformHistoryOf first events history
  pub stands : InformsStand history last
  pub stays : InformsStay first last

-- a history with what happens now
happened : (first middle last : Informs) (e : InformHappening) (history : List InformHappening) (events : List InformEvent) (event : InformEvent) → InformsStay first middle → IsInformHistoryOf first events history → InformHappens middle history e last
    → informs_of (event ∷ events) ≡ begun_in (e ∷ history) → went_out (event ∷ events) ≡ asked_in (e ∷ history) → acknowledged (event ∷ events) ≡ answered_in (e ∷ history) → IsInformHistoryOf first (event ∷ events) (e ∷ history)
happened first middle last e history events event stays is happens begun sent answered = record {
  lawful = (subst (λ (s : InformSetting). IsInformLawful s history e) (setting_same first middle stays) happens.lawful, is.lawful);
  begun = begun;
  sent = sent;
  answered = answered;
}

-- a history of the same, where an event changes nothing of it
unchanged : (first : Informs) (history : List InformHappening) (events : List InformEvent) (event : InformEvent) → IsInformHistoryOf first events history → informs_of (event ∷ events) ≡ informs_of events → went_out (event ∷ events) ≡ went_out events
    → acknowledged (event ∷ events) ≡ acknowledged events → IsInformHistoryOf first (event ∷ events) history
unchanged first history events event is begun sent answered = record { lawful = is.lawful; begun = begun ∙ is.begun; sent = sent ∙ is.sent; answered = answered ∙ is.answered }

-- an Inform that goes on isn't acknowledged
going_on : (n : ℕ) (t : NextStep) (ns : List ℕ) → IsGoingOn t → ns ≡ answered_by n t ++ ns
going_on n Wait ns is = refl
going_on n (Send m) ns is = refl
going_on n Answered ns (inl is) = cc is
going_on n Answered ns (inr is) = let wrong = is.1 in cc wrong
going_on n (Refused counter) ns is = refl

received : (first middle last : Informs) (now receiver : ℕ) (datagram : List ℕ) (r : ReceiverTaken) (events : List InformEvent) (known : RunStands first events middle) → InformsStay middle last → ReceiverHappens middle known.history now receiver datagram r last
    → RunStands first (receives now receiver datagram r ∷ events) last
received first middle last now receiver datagram (taken.Refused why) events known stays happens = record {
  history = known.history;
  is = unchanged first known.history events (receives now receiver datagram (taken.Refused why)) known.is refl refl refl;
  stands = happens.1.stands;
  stays = stays_on first middle last known.stays stays;
}
received first middle last now receiver datagram taken.NoAnswer events known stays happens = record {
  history = known.history;
  is = unchanged first known.history events (receives now receiver datagram taken.NoAnswer) known.is refl refl refl;
  stands = happens.2.still.stands;
  stays = stays_on first middle last known.stays stays;
}
received first middle last now receiver datagram (taken.Heard n) events known stays happens =
    let e = answers n (accepted_at last.manager now receiver datagram happens.given) happens.heard in record {
      history = e ∷ known.history;
      is = happened first middle last e known.history events (receives now receiver datagram (taken.Heard n)) known.stays known.is happens.happens known.is.begun known.is.sent
          (known.is.answered ∙ going_on n happens.heard.turn (answered_in known.history) happens.next);
      stands = happens.happens.stands;
      stays = stays_on first middle last known.stays stays;
    }
received first middle last now receiver datagram (taken.Acknowledged n) events known stays happens =
    let e = answers n (accepted_at last.manager now receiver datagram happens.given) happens.heard in record {
      history = e ∷ known.history;
      is = happened first middle last e known.history events (receives now receiver datagram (taken.Acknowledged n)) known.stays known.is happens.happens known.is.begun known.is.sent
          (ap (λ (ns : List ℕ). n ∷ ns) known.is.answered ∙ ap (λ (t : NextStep). answered_by n t ++ answered_in known.history) (sym happens.next));
      stands = happens.happens.stands;
      stays = stays_on first middle last known.stays stays;
    }
received first middle last now receiver datagram (taken.Denied n counter) events known stays happens =
    let e = answers n (accepted_at last.manager now receiver datagram happens.given) happens.heard in record {
      history = e ∷ known.history;
      is = happened first middle last e known.history events (receives now receiver datagram (taken.Denied n counter)) known.stays known.is happens.happens known.is.begun known.is.sent
          (known.is.answered ∙ ap (λ (t : NextStep). answered_by n t ++ answered_in known.history) (sym happens.next));
      stands = happens.happens.stands;
      stays = stays_on first middle last known.stays stays;
    }

sent_out : (first middle last : Informs) (now : ℕ) (salt : List ℕ) (id : ℕ) (what : InformSent) (events : List InformEvent) (known : RunStands first events middle) → InformsStay middle last → InformSendHappens middle known.history now salt id what last
    → RunStands first (goes_out now salt id what ∷ events) last
sent_out first middle last now salt id (out.ToReceiver n r m w) events known stays happens =
    let e = asks n r now m middle.manager happens.by happens.pending w.items in record {
      history = e ∷ known.history;
      is = happened first middle last e known.history events (goes_out now salt id (out.ToReceiver n r m w)) known.stays known.is happens.happens known.is.begun (ap (λ (xs : List (ℕ × List ℕ)). (r, w.items) ∷ xs) known.is.sent) known.is.answered;
      stands = happens.happens.stands;
      stays = stays_on first middle last known.stays stays;
    }
sent_out first middle last now salt id (out.Unsent n r why) events known stays happens =
    let e = ends n r now (refused happens.0 middle.manager happens.1 why) in record {
      history = e ∷ known.history;
      is = happened first middle last e known.history events (goes_out now salt id (out.Unsent n r why)) known.stays known.is happens.2 known.is.begun known.is.sent known.is.answered;
      stands = happens.2.stands;
      stays = stays_on first middle last known.stays stays;
    }
sent_out first middle last now salt id (out.GivenUp n r hint) events known stays happens =
    let e = ends n r now happens.why in record {
      history = e ∷ known.history;
      is = happened first middle last e known.history events (goes_out now salt id (out.GivenUp n r hint)) known.stays known.is happens.happens known.is.begun known.is.sent known.is.answered;
      stands = happens.happens.stands;
      stays = stays_on first middle last known.stays stays;
    }
sent_out first middle last now salt id out.Nothing events known stays happens = record {
  history = known.history;
  is = unchanged first known.history events (goes_out now salt id out.Nothing) known.is refl refl refl;
  stands = happens.stands;
  stays = stays_on first middle last known.stays stays;
}

pub run_stands : (first : Informs) (events : List InformEvent) (last : Informs) → InformsStand [] first → IsInformRun first events last → RunStands first events last
run_stands first [] last stands run = subst (RunStands first []) (sym run) (record {
  history = [];
  is = record { lawful = tt; begun = refl; sent = refl; answered = refl };
  stands = stands;
  stays = record { engine = refl; users = refl; limits = refl; most = refl };
})
run_stands first (comes i n ∷ events) last stands run =
    let known = run_stands first events run.0 stands run.1 in
    let happens = run.2.1 known.history known.stands in record {
      history = begins n i ∷ known.history;
      is = happened first run.0 last (begins n i) known.history events (comes i n) known.stays known.is happens (ap (λ (is : List Inform). i ∷ is) known.is.begun) known.is.sent known.is.answered;
      stands = happens.stands;
      stays = stays_on first run.0 last known.stays run.2.0;
    }
run_stands first (receives now receiver w r ∷ events) last stands run =
    let known = run_stands first events run.0 stands run.1 in
    received first run.0 last now receiver w r events known run.2.0 (run.2.1 known.history known.stands)
run_stands first (goes_out now salt id what ∷ events) last stands run =
    let known = run_stands first events run.0 stands run.1 in
    sent_out first run.0 last now salt id what events known run.2.0 (run.2.1 known.history known.stands)
run_stands first (finds_no_memory ∷ events) last stands run =
    let known = run_stands first events run.0 stands run.1 in
    let same = run.2 in record {
      history = known.history;
      is = unchanged first known.history events finds_no_memory known.is refl refl refl;
      stands = still run.0 last known.history same.stays.limits same.stays.most same.next same.list (subst (KeepsRequests run.0.requests) (sym same.requests) (keeps_all run.0.requests)) known.stands;
      stays = stays_on first run.0 last known.stays same.stays;
    }
