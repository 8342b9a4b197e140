-- What happens to an Inform that waits.
use Rattle.std.specs.Prelude.{◌≡◌, ◌≢◌, ◌<◌, ◌≤◌, ℕ, Bool, true, false, List, ◌∷◌, Contains, Option, Some, None, IsSome, slice_set, remove, ◌/◌}
use Rattle.std.specs.FinMap as map
use Rattle.std.specs.Global.{Vec}
use Rattle.std.specs.List.{HoldsAt}
use Rattle.std.proofs.Common.{refl, sym, ap, subst, ◌∙◌, inl, inr, arith, true≢false}
use Rattle.std.proofs.lemmas.Option.{same_Some, slice_get_within}
use Rattle.std.proofs.lemmas.List.{get_or-set_same, length-set}
use Rattle.snmp_incoming.specs.Outcome.{Given}
use Rattle.snmp_message.specs.declared.refusal.Refusal.{Refusal}
use Rattle.snmp_manager.specs.declared.pending.Pending.{Pending}
use Rattle.snmp_manager.specs.Views.{Held}
use Rattle.snmp_requests.specs.DeviceRequestRuns.{HearStep}
use Rattle.snmp_requests.specs.Outstanding.{Outstanding, message_id_of}
use Rattle.snmp_requests.specs.declared.device_request.DeviceRequest.{DeviceRequest}
use Rattle.snmp_requests.specs.declared.device_request.Heard.{Heard}
use Rattle.snmp_requests.specs.declared.device_request.NextStep.{NextStep}
use Rattle.snmp_requests.specs.declared.device_request.NextStep.TheVariants.{Wait, Send, Answered, Refused}
use Rattle.snmp_requests.specs.declared.device_request.SentMessage.{SentMessage}
use Rattle.snmp_requests.specs.declared.device_request.SentMessage.TheVariants.{Discovery, TimeRequest, Request}
use Rattle.snmp_requests.specs.declared.outstanding.OutstandingRequest.{OutstandingRequest}
use Rattle.snmp_forward.specs.Exchange.{MayBeTried}
use Rattle.snmp_forward.specs.ExchangeRuns.{ExchangeStep, IsExchangeRun}
use Rattle.snmp_forward.specs.InformHistory.{Accepted, InformEnd, InformHappening, InformKnown, IsAccepted, IsAnswer, IsHeardIn, IsReason, StandsAt, answers, asked_with, asks, begins, ends, is_end, known_after, known_of, message_of, refused, tried}
use Rattle.snmp_forward.specs.InformStanding.{AnswersGiven, GivesUpOne, InformHappens, InformSendHappens, InformStands, InformsStand, IsAnswered, IsAt, IsGivenUp, IsOwn, IsRemoved, IsSameElse, IsWaitedFor, KeepsRequests, WaitsForAnswer, setting_of}
use Rattle.snmp_forward.specs.WaitingInforms.{HearsInform, IsAddressed, IsSentInform, RefusesMessage, SendsMessage, engine_after}
use Rattle.snmp_forward.specs.declared.exchange.InformExchange.{InformExchange}
use Rattle.snmp_forward.specs.declared.exchange.InformLimits.{InformLimits}
use Rattle.snmp_forward.specs.declared.inform.Inform.{Inform}
use Rattle.snmp_forward.specs.declared.informs.InformSent.TheVariants as out
use Rattle.snmp_forward.specs.declared.informs.Informs.{Informs}
use Rattle.snmp_forward.specs.declared.sealing.Sealing.{Sealing}
use Rattle.snmp_forward.specs.declared.waiting_inform.WaitingInform.{WaitingInform}
use Rattle.snmp_forward.proofs.InformKeeping.{goes_off, goes_on, it_stands, known_same, later, read_at, remove_set}

-- ---- an Inform ends without an answer

-- what is known of the one at this place
abbrev pub stands_there : (old : Informs) (before : List InformHappening) (place : ℕ) (w : WaitingInform) → IsAt old place w → InformsStand before old → InformStands old.limits old.requests before w
stands_there old before place w at stands = it_stands old old before (ends w.number 0 0 tried) place w (record { engine = refl; manager = refl; limits = refl; most = refl; next = refl }) at refl (record { later = omega arith; same = λ token r given there is. there }) stands

pub ends_one : (old new : Informs) (before : List InformHappening) (place now : ℕ) (w : WaitingInform) (why : InformEnd) → IsRemoved old place w new → w.exchange.due ≤ now → IsReason (setting_of old) w.engine w.inform w.exchange why
    → InformsStand before old → InformHappens old before (ends w.number w.inform.receiver now why) new
ends_one old new before place now w why gone due reason stands =
    let it = stands_there old before place w gone.at stands in record {
      lawful = record {
        inform = w.inform;
        to = refl;
        at = w.exchange;
        stands = it.at;
        due = due;
        reason = subst (λ (engine : Option (List ℕ)). IsReason (setting_of old) engine w.inform w.exchange why) (sym it.engine) reason;
      };
      stands = goes_off old new before (ends w.number w.inform.receiver now why) place w gone.same gone.at refl gone.requests stands gone.list
          (ap (λ (k : InformKnown). k.over) (known_same w.number (ends w.number w.inform.receiver now why) before refl));
    }

pub gives_up_one : (old new : Informs) (before : List InformHappening) (place now first_id : ℕ) (x w : WaitingInform) (why : InformEnd) → IsRemoved old place x new → IsAt old place w → w.exchange.due ≤ now → IsGivenUp old.requests first_id why
    → IsReason (setting_of old) w.engine w.inform w.exchange why → InformsStand before old → GivesUpOne old before now first_id x.number x.inform.receiver x.exchange.request.hint new
gives_up_one old new before place now first_id x w why gone at due given_up reason stands =
    let same : w ≡ x = same_Some w x (sym at ∙ gone.at) in
    let it = stands_there old before place x gone.at stands in record {
      inform = x.inform;
      at = x.exchange;
      stands = it.at;
      hint_is = refl;
      why = why;
      is_given_up = given_up;
      happens = ends_one old new before place now x why gone (subst (λ (y : WaitingInform). y.exchange.due ≤ now) same due)
          (subst (λ (y : WaitingInform). IsReason (setting_of old) y.engine y.inform y.exchange why) same reason) stands;
    }

-- ---- a message is sent

pub sends_id : (held : Held) (own : List ℕ) (engine : Option (List ℕ)) (inform : Inform) (m : SentMessage) (by : Sealing) (pending : Pending) (w : List ℕ) → SendsMessage held own engine inform m by pending w → pending.id ≡ by.id
sends_id held own None inform m by pending w is = is.1.id_is
sends_id held own (Some engine) inform Discovery by pending w is = is.1.id_is
sends_id held own (Some engine) inform TimeRequest by pending w is = is.1.id_is
sends_id held own (Some engine) inform Request by pending w is = is.remembers.id_is

pub sends_addressed : (held : Held) (own : List ℕ) (engine : Option (List ℕ)) (inform : Inform) (m : SentMessage) (by : Sealing) (pending : Pending) (w : List ℕ) → SendsMessage held own engine inform m by pending w
    → IsAddressed engine inform m pending.engine.items pending.user.items
sends_addressed held own None inform m by pending w is = (is.1.engine_is, is.1.user_is)
sends_addressed held own (Some engine) inform Discovery by pending w is = (is.1.engine_is, is.1.user_is)
sends_addressed held own (Some engine) inform TimeRequest by pending w is = (is.1.engine_is, is.1.user_is)
sends_addressed held own (Some engine) inform Request by pending w is = (is.remembers.engine_is, is.remembers.user_is)

-- where one stands, by another name for its number and itself
stands_as : (limits : InformLimits) (before : List InformHappening) (n k : ℕ) (i j : Inform) (x : InformExchange) → k ≡ n → j ≡ i → StandsAt limits before n i x → StandsAt limits before k j x
stands_as limits before n k i j x number inform at =
    subst (λ (m : ℕ). StandsAt limits before m j x) (sym number) (subst (λ (z : Inform). StandsAt limits before n z x) (sym inform) at)

module _ (limits : InformLimits) (old new : Outstanding) (before : List InformHappening) (w y : WaitingInform) (now token : ℕ) (m : SentMessage) (held : Held) (by : Sealing) (pending : Pending) (datagram : List ℕ) (sent : IsSentInform limits now token w y)
    (due : w.exchange.due ≤ now) (may : MayBeTried limits w.exchange m) (given : token < new.next) (id : pending.id ≡ message_id_of token) (waits : (r : OutstandingRequest) → map.get new.requests (message_id_of token) ≡ Some r → r.token ≡ token → r.pending ≡ pending)
    (stands : InformStands limits old before w) where
  abbrev asked_now : InformHappening
  asked_now = asks w.number w.inform.receiver now m held by pending datagram

  known_now : known_of w.number (asked_now ∷ before) ≡ known_after asked_now (known_of w.number before)
  known_now = known_same w.number asked_now before refl

  known_there : known_of y.number (asked_now ∷ before) ≡ known_after asked_now (known_of w.number before)
  known_there = ap (λ (n : ℕ). known_of n (asked_now ∷ before)) sent.number ∙ known_now

  asked_at : StandsAt limits (asked_now ∷ before) w.number w.inform y.exchange
  asked_at = record {
    is_begun = later (begins w.number w.inform) asked_now before stands.at.is_begun;
    not_over = ap (λ (k : InformKnown). k.over) known_now ∙ stands.at.not_over;
    first = stands.at.first;
    begun = stands.at.begun;
    anew = stands.at.anew;
    run = subst (λ (steps : List ExchangeStep). IsExchangeRun limits stands.at.first steps y.exchange) (sym (ap (λ (k : InformKnown). k.steps) known_now)) (w.exchange, stands.at.run, (due, may, sent.sent));
  }

  sent_same : y.exchange.request.sent ≡ w.exchange.request.sent
  sent_same = ap (λ (r : DeviceRequest). r.sent) sent.sent.request

  pub asks_stand : InformStands limits new (asked_now ∷ before) y
  asks_stand = record {
    at = stands_as limits (asked_now ∷ before) w.number y.number w.inform y.inform y.exchange sent.number sent.inform asked_at;
    engine = ap (λ (k : InformKnown). k.engine) known_there ∙ (stands.engine ∙ sym sent.engine);
    located = λ n is never. subst (λ (e : Option (List ℕ)). IsSome e) (sym sent.engine) (stands.located n (sym sent_same ∙ is) never);
    waits = λ t is.
        let same : t ≡ token = same_Some t token (sym is ∙ sent.token_is) in
        subst (λ (k : ℕ). IsWaitedFor new (asked_now ∷ before) y k) (sym same) (record {
          given = given;
          own = λ r there of. record {
            message = m;
            is_asked = ap (λ (k : InformKnown). k.asked) known_there ∙ ap (λ (a : Pending). Some (asked_with m a)) (sym (waits r there of));
            is_sent = sent_same ∙ may.asked;
          };
          id = λ r there of. ap (λ (a : Pending). a.id) (waits r there of) ∙ id;
        });
  }

pub asks_one : (old new : Informs) (before : List InformHappening) (place now token : ℕ) (w : WaitingInform) (m : SentMessage) (by : Sealing) (pending : Pending) (datagram : List ℕ) → WaitsForAnswer old place now token pending new → IsSameElse old new → IsAt old place w
    → w.exchange.due ≤ now → MayBeTried old.limits w.exchange m → SendsMessage old.manager old.engine w.engine w.inform m by pending datagram → InformsStand before old → InformHappens old before (asks w.number w.inform.receiver now m old.manager by pending datagram) new
asks_one old new before place now token w m by pending datagram waits else at due may goes stands =
    let it = stands_there old before place w at stands in
    let one : waits.before ≡ w = same_Some waits.before w (sym waits.at ∙ at) in
    let sent = subst (λ (x : WaitingInform). IsSentInform old.limits now token x waits.after) one waits.sent in record {
      lawful = record {
        inform = w.inform;
        to = refl;
        at = w.exchange;
        stands = it.at;
        due = due;
        may = may;
        known = λ never. subst (λ (e : Option (List ℕ)). IsSome e) (sym it.engine) (it.located m may.asked never);
        users = refl;
        goes = subst (λ (e : Option (List ℕ)). SendsMessage old.manager old.engine e w.inform m by pending datagram) (sym it.engine) goes;
      };
      stands = goes_on old new before (asks w.number w.inform.receiver now m old.manager by pending datagram) place w else at refl waits.requests stands waits.after sent.number waits.list
          (asks_stand old.limits old.requests new.requests before w waits.after now token m old.manager by pending datagram sent due may waits.given waits.id waits.waits it);
    }

pub refuses_one : (old new : Informs) (before : List InformHappening) (place now : ℕ) (x w : WaitingInform) (m : SentMessage) (by : Sealing) (why : Refusal) → IsRemoved old place x new → IsAt old place w → w.exchange.due ≤ now → MayBeTried old.limits w.exchange m
    → RefusesMessage old.manager old.engine w.engine w.inform m by why → InformsStand before old → InformHappens old before (ends w.number w.inform.receiver now (refused m old.manager by why)) new
refuses_one old new before place now x w m by why gone at due may refuses stands =
    let one : x ≡ w = same_Some x w (sym gone.at ∙ at) in
    ends_one old new before place now w (refused m old.manager by why) (subst (λ (y : WaitingInform). IsRemoved old place y new) one gone) due (may.asked, refl, refuses) stands

-- ---- by the calls

-- the same Informs with this manager
abbrev pub with_manager : Informs → Held → Informs
with_manager f m = record { alloc = f.alloc; engine = f.engine; manager = m; requests = f.requests; list = f.list; next = f.next; most = f.most; limits = f.limits }

pub may_there : (f : Informs) (place : ℕ) (m : SentMessage) (w : WaitingInform) → HoldsAt (λ (x : WaitingInform). MayBeTried f.limits x.exchange m) f.list.items place → IsAt f place w → MayBeTried f.limits w.exchange m
may_there f place m w may at = subst (λ (x : WaitingInform). MayBeTried f.limits x.exchange m) (read_at f.list.items place w w at) (may w)

pub sends_one : (old new : Informs) (held : Held) (before : List InformHappening) (place now token first_id : ℕ) (salt : List ℕ) (x w : WaitingInform) (m : SentMessage) (by : Sealing) (pending : Pending) (datagram : Vec ℕ) → held ≡ old.manager
    → WaitsForAnswer (with_manager old held) place now token pending new → IsSameElse (with_manager old held) new → IsAt old place x → by.seconds ≡ now / 1000 → by.salt ≡ salt → HoldsAt (λ (y : WaitingInform). MayBeTried old.limits y.exchange m) old.list.items place
    → SendsMessage old.manager old.engine x.engine x.inform m by pending datagram.items → IsAt old place w → w.exchange.due ≤ now → InformsStand before old
    → InformSendHappens old before now salt first_id (out.ToReceiver x.number x.inform.receiver m datagram) new
sends_one old new held before place now token first_id salt x w m by pending datagram same waits else there seconds salt_is may goes at due stands =
    let one : w ≡ x = same_Some w x (sym at ∙ there) in
    let mine = subst (λ (h : Held). WaitsForAnswer (with_manager old h) place now token pending new) same waits in
    let first : mine.before ≡ x = same_Some mine.before x (sym mine.at ∙ there) in
    let it = stands_there old before place x there stands in
    let differs : mine.before.token ≢ Some token = λ is.
    let wait = it.waits token (ap (λ (y : WaitingInform). y.token) (sym first) ∙ is) in
    absurd (omega (arith, mine.later token wait.given)) in
    let within = slice_get_within old.list.items place x there in record {
      by = by;
      seconds = seconds;
      salt_is = salt_is;
      pending = pending;
      token = token;
      waits = mine.there differs;
      among = (
        mine.after,
        subst (λ (ws : List WaitingInform). Contains ws mine.after) (sym mine.list) (place, omega (arith, within, length-set old.list.items place mine.after), get_or-set_same old.list.items place mine.after mine.after within),
        mine.sent.number ∙ ap (λ (y : WaitingInform). y.number) first,
        mine.sent.token_is,
      );
      happens = asks_one old new before place now token x m by pending datagram.items mine (subst (λ (h : Held). IsSameElse (with_manager old h) new) same else) there (subst (λ (y : WaitingInform). y.exchange.due ≤ now) one due)
          (may_there old place m x may there) goes stands;
    }

pub unsent_one : (old new : Informs) (held : Held) (before : List InformHappening) (place now first_id : ℕ) (salt : List ℕ) (gone x w : WaitingInform) (m : SentMessage) (by : Sealing) (why : Refusal) → held ≡ old.manager
    → IsRemoved (with_manager old held) place gone new → IsAt old place x → HoldsAt (λ (y : WaitingInform). MayBeTried old.limits y.exchange m) old.list.items place → RefusesMessage old.manager old.engine x.engine x.inform m by why
    → IsAt old place w → w.exchange.due ≤ now → InformsStand before old → InformSendHappens old before now salt first_id (out.Unsent x.number x.inform.receiver why) new
unsent_one old new held before place now first_id salt gone x w m by why same removed there may refuses at due stands =
    let one : w ≡ x = same_Some w x (sym at ∙ there) in (
      m,
      by,
      refuses_one old new before place now gone x m by why (subst (λ (h : Held). IsRemoved (with_manager old h) place gone new) same removed) there (subst (λ (y : WaitingInform). y.exchange.due ≤ now) one due)
          (may_there old place m x may there) refuses stands,
    )

-- ---- an answer is heard

engine_wait : (sent : Option SentMessage) (engine : List ℕ) (known : Option (List ℕ)) → engine_after sent Wait engine known ≡ known
engine_wait None engine known = refl
engine_wait (Some Discovery) engine known = refl
engine_wait (Some TimeRequest) engine known = refl
engine_wait (Some Request) engine known = refl

none_some : (t : ℕ) → None ≡ Some t → ⊥
none_some t e = cc e

not_end : true ≡ false → ⊥
not_end e = cc e

-- what is heard, with what was to be done
abbrev pub heard_as : Heard → Bool → NextStep → HearStep
heard_as heard holds next = record { heard = heard; holds_clock = holds; turn = next }

module _ (limits : InformLimits) (old new : Outstanding) (before : List InformHappening) (w y : WaitingInform) (given : Given) (heard : Heard) (holds : Bool) (engine : List ℕ) (what : Accepted) (of : given.engine ≡ engine) (whats : what.given ≡ given)
    (is_answer : IsAnswered before w given heard) (keeps : KeepsRequests old new) (stands : InformStands limits old before w) where
  abbrev heard_now : NextStep → InformHappening
  heard_now next = answers w.number what (heard_as heard holds next)

  known_then : (next : NextStep) → known_of w.number (heard_now next ∷ before) ≡ known_after (heard_now next) (known_of w.number before)
  known_then next = known_same w.number (heard_now next) before refl

  known_on : (next : NextStep) → HearsInform w heard holds engine next y → known_of y.number (heard_now next ∷ before) ≡ known_after (heard_now next) (known_of w.number before)
  known_on next hears = ap (λ (n : ℕ). known_of n (heard_now next ∷ before)) hears.number ∙ known_then next

  heard_at : (next : NextStep) → HearsInform w heard holds engine next y → is_end next ≡ false → StandsAt limits (heard_now next ∷ before) w.number w.inform y.exchange
  heard_at next hears on = record {
    is_begun = later (begins w.number w.inform) (heard_now next) before stands.at.is_begun;
    not_over = ap (λ (k : InformKnown). k.over) (known_then next) ∙ on;
    first = stands.at.first;
    begun = stands.at.begun;
    anew = stands.at.anew;
    run = subst (λ (steps : List ExchangeStep). IsExchangeRun limits stands.at.first steps y.exchange) (sym (ap (λ (k : InformKnown). k.steps) (known_then next))) (w.exchange, stands.at.run, hears.hears);
  }

  heard_engine : (next : NextStep) → HearsInform w heard holds engine next y → (known_of y.number (heard_now next ∷ before)).engine ≡ y.engine
  heard_engine next hears =
      let sent : message_of (known_of w.number before).asked ≡ w.exchange.request.sent = ap message_of is_answer.is_asked ∙ sym is_answer.is_sent in
      ap (λ (k : InformKnown). k.engine) (known_on next hears)
      ∙ ap (λ (s : Option SentMessage). engine_after s next what.given.engine (known_of w.number before).engine) sent
      ∙ ap (λ (e : List ℕ). engine_after w.exchange.request.sent next e (known_of w.number before).engine) (ap (λ (g : Given). g.engine) whats ∙ of)
      ∙ ap (engine_after w.exchange.request.sent next engine) stands.engine
      ∙ sym hears.engine_is

  -- the engine is known once another message than the discovery is to be sent
  located_then : (next : NextStep) → HearsInform w heard holds engine next y → is_end next ≡ false → (m : SentMessage) → y.exchange.request.sent ≡ Some m → m ≢ Discovery → IsSome y.engine
  located_then (Send n) hears on m is never = elim hears.hears.hears [
    | inl tells ↦ subst (λ (e : Option (List ℕ)). IsSome e) (sym (hears.engine_is ∙ ap (λ (s : Option SentMessage). engine_after s (Send n) engine w.engine) tells.0.asked)) refl
    | inr others ↦ elim others [
      | inl tells ↦ subst (λ (e : Option (List ℕ)). IsSome e) (sym (hears.engine_is ∙ ap (λ (s : Option SentMessage). engine_after s (Send n) engine w.engine) tells.0.asked))
          (stands.located TimeRequest tells.0.asked (λ e. cc e))
      | inr window ↦ subst (λ (e : Option (List ℕ)). IsSome e) (sym (hears.engine_is ∙ ap (λ (s : Option SentMessage). engine_after s (Send n) engine w.engine) window.0.asked))
          (stands.located Request window.0.asked (λ e. cc e))
    ]
  ]
  located_then Wait hears on m is never =
      let same : y.exchange.request.sent ≡ w.exchange.request.sent = ap (λ (r : DeviceRequest). r.sent) hears.hears.hears.1 in
      subst (λ (e : Option (List ℕ)). IsSome e) (sym (hears.engine_is ∙ engine_wait w.exchange.request.sent engine w.engine)) (stands.located m (sym same ∙ is) never)
  located_then Answered hears on m is never = cc on
  located_then (Refused counter) hears on m is never = cc on

  sent_on : HearsInform w heard holds engine Wait y → y.exchange.request.sent ≡ w.exchange.request.sent
  sent_on hears = ap (λ (r : DeviceRequest). r.sent) hears.hears.hears.1

  asked_on : HearsInform w heard holds engine Wait y → (known_of y.number (heard_now Wait ∷ before)).asked ≡ (known_of w.number before).asked
  asked_on hears = ap (λ (k : InformKnown). k.asked) (known_on Wait hears)

  own_on : (r : OutstandingRequest) → HearsInform w heard holds engine Wait y → IsOwn before w r → IsOwn (heard_now Wait ∷ before) y r
  own_on r hears own = record { message = own.message; is_asked = asked_on hears ∙ own.is_asked; is_sent = sent_on hears ∙ own.is_sent }

  waits_on : (t : ℕ) → HearsInform w heard holds engine Wait y → IsWaitedFor old before w t → IsWaitedFor new (heard_now Wait ∷ before) y t
  waits_on t hears wait = record {
    given = omega (arith, wait.given, keeps.later);
    own = λ r there of. own_on r hears (wait.own r (keeps.same t r wait.given there of) of);
    id = λ r there of. wait.id r (keeps.same t r wait.given there of) of;
  }

  waits_then : (next : NextStep) → HearsInform w heard holds engine next y → is_end next ≡ false → (t : ℕ) → y.token ≡ Some t → IsWaitedFor new (heard_now next ∷ before) y t
  waits_then (Send n) hears on t is = absurd (none_some t (sym hears.token_is ∙ is))
  waits_then Wait hears on t is = waits_on t hears (stands.waits t (sym hears.token_is ∙ is))
  waits_then Answered hears on t is = absurd (not_end on)
  waits_then (Refused counter) hears on t is = absurd (not_end on)

  pub heard_stands : (next : NextStep) → HearsInform w heard holds engine next y → is_end next ≡ false → InformStands limits new (heard_now next ∷ before) y
  heard_stands next hears on = record {
    at = stands_as limits (heard_now next ∷ before) w.number y.number w.inform y.inform y.exchange hears.number hears.inform (heard_at next hears on);
    engine = heard_engine next hears;
    located = located_then next hears on;
    waits = waits_then next hears on;
  }

module _ (old new : Informs) (before : List InformHappening) (place : ℕ) (w y : WaitingInform) (given : Given) (heard : Heard) (holds : Bool) (engine : List ℕ) (next : NextStep) (hears : HearsInform w heard holds engine next y) (of : given.engine ≡ engine)
    (at : IsAt old place w) (is_answer : IsAnswered before w given heard) (keeps : KeepsRequests old.requests new.requests) (else : IsSameElse old new) (stands : InformsStand before old) where
  answer_lawful : (what : Accepted) → what.receiver ≡ w.inform.receiver → what.given ≡ given → IsAccepted old.manager.users what → IsAnswer (setting_of old) before w.number what (heard_as heard holds next)
  answer_lawful what from whats accepted = record {
    inform = w.inform;
    from = sym from;
    at = w.exchange;
    stands = (stands_there old before place w at stands).at;
    asked = is_answer.asked;
    is_asked = is_answer.is_asked;
    is_sent = is_answer.is_sent;
    accepted = accepted;
    is_heard = subst (λ (g : Given). IsHeardIn is_answer.asked.pending g heard) (sym whats) is_answer.is_heard;
    next = y.exchange;
    goes_on = hears.hears;
  }

  pub answers_on : {Next : NextStep → Type 0} → Next next → new.list.items ≡ slice_set old.list.items place y → is_end next ≡ false → (next ≡ Wait → new.requests ≡ old.requests) → AnswersGiven old before w.inform.receiver given holds heard w.number Next new
  answers_on is list on waits = record {
    heard = heard_as heard holds next;
    heard_is = refl;
    kept = λ wait report. waits wait;
    clock = refl;
    next = is;
    happens = λ what from whats accepted. record {
      lawful = answer_lawful what from whats accepted;
      stands = goes_on old new before (answers w.number what (heard_as heard holds next)) place w else at refl keeps stands y hears.number list
          (heard_stands old.limits old.requests new.requests before w y given heard holds engine what of whats is_answer keeps (stands_there old before place w at stands) next hears on);
    };
  }

  pub answers_off : {Next : NextStep → Type 0} → Next next → new.list.items ≡ remove (slice_set old.list.items place y) place → is_end next ≡ true → AnswersGiven old before w.inform.receiver given holds heard w.number Next new
  answers_off is list ended = record {
    heard = heard_as heard holds next;
    heard_is = refl;
    kept = λ wait report. absurd (true≢false (sym ended ∙ ap is_end wait));
    clock = refl;
    next = is;
    happens = λ what from whats accepted. record {
      lawful = answer_lawful what from whats accepted;
      stands = goes_off old new before (answers w.number what (heard_as heard holds next)) place w else at refl keeps stands (list ∙ remove_set old.list.items place y)
          (ap (λ (k : InformKnown). k.over) (known_same w.number (answers w.number what (heard_as heard holds next)) before refl) ∙ ended);
    };
  }

module _ (old new : Informs) (before : List InformHappening) (place : ℕ) (i x w y : WaitingInform) (given : Given) (heard : Heard) (holds : Bool) (engine : List ℕ) (turn next : NextStep) (hears : HearsInform x heard holds engine turn y) (is : turn ≡ next)
    (of : given.engine ≡ engine) (at_i : IsAt old place i) (at_x : IsAt old place x) (at : IsAt old place w) (is_answer : IsAnswered before w given heard) (keeps : KeepsRequests old.requests new.requests) (else : IsSameElse old new)
    (stands : InformsStand before old) where
  hears_it : HearsInform w heard holds engine next y
  hears_it = subst (λ (n : NextStep). HearsInform w heard holds engine n y) is (subst (λ (z : WaitingInform). HearsInform z heard holds engine turn y) (same_Some x w (sym at_x ∙ at)) hears)

  number_is : w.number ≡ i.number
  number_is = ap (λ (z : WaitingInform). z.number) (same_Some w i (sym at ∙ at_i))

  pub hears_on : (Next : NextStep → Type 0) → Next next → new.list.items ≡ slice_set old.list.items place y → is_end next ≡ false → (next ≡ Wait → new.requests ≡ old.requests) → AnswersGiven old before w.inform.receiver given holds heard i.number Next new
  hears_on Next has list on waits = subst (λ (n : ℕ). AnswersGiven old before w.inform.receiver given holds heard n Next new) number_is
      (answers_on old new before place w y given heard holds engine next hears_it of at is_answer keeps else stands has list on waits)

  pub hears_off : (Next : NextStep → Type 0) → Next next → new.list.items ≡ remove (slice_set old.list.items place y) place → is_end next ≡ true → AnswersGiven old before w.inform.receiver given holds heard i.number Next new
  hears_off Next has list ended = subst (λ (n : ℕ). AnswersGiven old before w.inform.receiver given holds heard n Next new) number_is
      (answers_off old new before place w y given heard holds engine next hears_it of at is_answer keeps else stands has list ended)
