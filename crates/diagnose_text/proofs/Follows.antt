-- What a follower does with a datagram, by what the functions that it calls do.
use Rattle.std.proofs.Common.{◌≡◌, ◌∙◌, ℕ, List, Bool, true, false, Option, Some, None, Result, Ok, Err, OnOk, ap, is_some, refl, subst, sym}
use Rattle.diagnose_exchanges.specs.declared.asked.Asked.{Asked}
use Rattle.diagnose_exchanges.specs.declared.exchange.Ending.TheVariants.{Alone, Waits}
use Rattle.diagnose_exchanges.specs.declared.exchange.Ending.{Ending}
use Rattle.diagnose_exchanges.specs.Exchanges.{Step, TakesBy, begins, answers, claims, ends, hands_over, finishes}
use Rattle.diagnose_judge.specs.Judging.{Judgement}
use Rattle.diagnose_text.specs.Datagrams.{Answers, Asks, Claims, IsAsked, IsStepOf, JudgesAs, StandsAlone, asked_by, asked_of, is_counted}
use Rattle.diagnose_text.specs.Following.{Follows, Sees}
use Rattle.diagnose_text.specs.declared.facts.Answer.{Answer}
use Rattle.diagnose_text.specs.declared.facts.First.{First}
use Rattle.diagnose_text.specs.declared.follower.Follower.{Follower}
use Rattle.diagnose_text.specs.declared.line.Line.{Line}
use Rattle.capture_files.specs.declared.endpoints.Route.{Route}

-- the same exchanges, in the same places
abbrev pub AreSame : Follower → Follower → Type 0
AreSame mid old = (mid.exchanges.gone ≡ old.exchanges.gone) × (mid.exchanges.list.items ≡ old.exchanges.list.items)

pub are_same : (mid old : Follower) → mid.exchanges ≡ old.exchanges → AreSame mid old
are_same mid old e = (ap (λ x. x.gone) e, ap (λ x. x.list.items) e)

-- the step is one of a wider kind, and the exchanges were the same before
pub follows_as : (P Q : Step Asked First Answer → Type 0) (old mid new : Follower) → AreSame mid old → ((step : Step Asked First Answer) → P step → Q step) → Follows P mid new → Follows Q old new
follows_as P Q old mid new same weaker f = record {
  place = f.place ∙ same.0;
  step = f.step;
  made = weaker f.step f.made;
  takes = subst (λ g. TakesBy f.step g old.exchanges.list.items new.exchanges.list.items) same.0 (subst (λ xs. TakesBy f.step mid.exchanges.gone xs new.exchanges.list.items) same.1 f.takes);
}

pub followed_as : {T E : Type 0} (r : Result T E) (P Q : Step Asked First Answer → Type 0) (old mid new : Follower) → AreSame mid old → ((step : Step Asked First Answer) → P step → Q step) → OnOk r (Follows P mid new) → OnOk r (Follows Q old new)
followed_as (Ok x) P Q old mid new same weaker f = follows_as P Q old mid new same weaker f
followed_as (Err e) P Q old mid new same weaker f = f

pub alone_as : (line : Line) (P Q : First → Type 0) → ((first : First) → P first → Q first) → (step : Step Asked First Answer) → StandsAlone line P step → StandsAlone line Q step
alone_as line P Q weaker (begins number first counts ending) h = (h.0, weaker first h.1, h.2, h.3)
alone_as line P Q weaker (answers place by asked answer) h = h
alone_as line P Q weaker (claims place by asked answer) h = h
alone_as line P Q weaker (ends place ending) h = h
alone_as line P Q weaker (hands_over first place) h = h
alone_as line P Q weaker finishes h = h

pub asks_as : (line : Line) (id : ℕ) (P Q : First → Type 0) → ((first : First) → P first → Q first) → (step : Step Asked First Answer) → Asks line id P step → Asks line id Q step
asks_as line id P Q weaker (begins number first counts ending) h = (h.0, weaker first h.1, h.2)
asks_as line id P Q weaker (answers place by asked answer) h = h
asks_as line id P Q weaker (claims place by asked answer) h = h
asks_as line id P Q weaker (ends place ending) h = h
asks_as line id P Q weaker (hands_over first place) h = h
asks_as line id P Q weaker finishes h = h

-- what is known of the one first datagram
pub of_one : (P : First → Type 0) (known : First) → P known → (first : First) → first ≡ known → P first
of_one P known h first is = subst P (sym is) h

-- a copy stands alone
copy_asks : (copy : Option ℕ) (asked : Asked) (first : First) (counts : Bool) (ending : Ending Asked Answer) → is_some copy ≡ true → counts ≡ false → ending ≡ Alone → IsAsked copy asked first counts ending
copy_asks None asked first counts ending is c e = cc is
copy_asks (Some n) asked first counts ending is c e = (c, e)

pub copy_stands : (line : Line) (id : ℕ) (P : First → Type 0) → is_some line.copy_of ≡ true → (step : Step Asked First Answer) → StandsAlone line P step → Asks line id P step
copy_stands line id P is (begins number first counts ending) h = (h.0, h.1, copy_asks line.copy_of (asked_by line id) first counts ending is h.2 h.3)
copy_stands line id P is (answers place by asked answer) h = h
copy_stands line id P is (claims place by asked answer) h = h
copy_stands line id P is (ends place ending) h = h
copy_stands line id P is (hands_over first place) h = h
copy_stands line id P is finishes h = h

-- one that is no copy waits
first_asks : (copy : Option ℕ) (asked : Asked) (first : First) → is_some copy ≡ false → IsAsked copy asked first (is_counted first) (Waits asked)
first_asks None asked first is = (refl, refl)
first_asks (Some n) asked first is = cc is

pub asked_anew : (line : Line) (id : ℕ) (asked : Asked) (first : First) → is_some line.copy_of ≡ false → asked ≡ asked_by line id → (step : Step Asked First Answer) → step ≡ begins line.number first (is_counted first) (Waits asked)
    → Asks line id (λ held. held ≡ first) step
asked_anew line id asked first is same step h =
    subst (Asks line id (λ held. held ≡ first)) (sym h)
    (subst (λ a. Asks line id (λ held. held ≡ first) (begins line.number first (is_counted first) (Waits a))) (sym same)
    (refl, refl, first_asks line.copy_of (asked_by line id) first is))

-- an answer that was given
pub answers_as : (line : Line) (id : ℕ) (P : Answer → Type 0) (asked : Asked) (answer : Answer) → asked ≡ asked_of line id → P answer → (step : Step Asked First Answer) → (place : ℕ) × (step ≡ answers place line.number asked answer) → Answers line id P step
answers_as line id P asked answer same known step h = subst (Answers line id P) (sym h.1) (refl, same, known)

-- something was said of what was asked that may be forged
pub claims_as : (line : Line) (id : ℕ) (P : Answer → Type 0) (asked : Asked) (answer : Answer) → asked ≡ asked_of line id → P answer → (step : Step Asked First Answer) → (place : ℕ) × (step ≡ claims place line.number asked answer) → Claims line id P step
claims_as line id P asked answer same known step h = subst (Claims line id P) (sym h.1) (refl, same, known)

-- it was judged, and then taken
pub seen_as_judged : {T E : Type 0} (r : Result T E) (line : Line) (w : List ℕ) (judgement : Option Judgement) (old mid new : Follower) → AreSame mid old → JudgesAs old.observer line.at.seconds w judgement mid.observer → new.observer ≡ mid.observer
    → OnOk r (Follows (IsStepOf line w judgement) mid new) → OnOk r ((j : Option Judgement) × Sees line w j old new)
seen_as_judged (Ok x) line w judgement old mid new same judged kept f = (
  judgement,
  record {
    judged = subst (JudgesAs old.observer line.at.seconds w judgement) (sym kept) judged;
    follows = follows_as (IsStepOf line w judgement) (IsStepOf line w judgement) old mid new same (λ step h. h) f;
  },
)
seen_as_judged (Err e) line w judgement old mid new same judged kept f = f

-- a datagram was told alone
pub told : {T E : Type 0} (r : Result T E) (line : Line) (first : First) (old new : Follower) → new.exchanges.gone ≡ old.exchanges.gone
    → OnOk r (TakesBy (begins line.number first false Alone) old.exchanges.gone old.exchanges.list.items new.exchanges.list.items) → OnOk r (Follows (StandsAlone line (λ held. held ≡ first)) old new)
told (Ok x) line first old new place takes = record { place = place; step = begins line.number first false Alone; made = (refl, refl, refl, refl); takes = takes }
told (Err e) line first old new place takes = takes

pub asked_is : (asked : Asked) (route : Option Route) (id : ℕ) → asked.route ≡ route → asked.id ≡ id → asked ≡ record { route = route; id = id }
asked_is asked route id p q = ap (λ r. record asked { route = r }) p ∙ ap (λ i. record { route = route; id = i }) q
