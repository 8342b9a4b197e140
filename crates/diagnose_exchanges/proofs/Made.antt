-- What exchanges hold is what the steps gave to them.
use Rattle.std.proofs.Common.{◌≡◌, ◌<◌, ◌++◌, ℕ, List, [], ◌∷◌, Bool, length, refl, sym, subst, lit<, slice_index_or, slice_set}
use Rattle.std.specs.List.{All, Contains}
use Rattle.std.proofs.lemmas.List.Elements.{All-cons, All-get_or, All-head, All-nil, All-push, All-same, All-set, All-tail, Contains-append_left, Contains-append_right}
use Rattle.diagnose_exchanges.specs.declared.exchange.Ending.{Ending}
use Rattle.diagnose_exchanges.specs.declared.exchange.Ending.TheVariants.{Waits, Alone, Answered, SentAgain, NoAnswer, NotFollowed}
use Rattle.diagnose_exchanges.specs.declared.exchange.Exchange.{Exchange}
use Rattle.diagnose_exchanges.specs.Exchanges.{Became, HasRun, IsGivenUp, IsMadeBy, IsUnanswered, Step, begins, answers, claims, ends, hands_over, finishes, begun, counting, ended, claimed, place_after, resent}

module _ {K Q A : Type 0} where
  -- it is as it began
  as_begun : (steps : List (Step K Q A)) (ending : Ending K A) → IsUnanswered ending → Became steps ending ending
  as_begun steps (Waits asked) un = refl
  as_begun steps Alone un = tt
  as_begun steps (Answered by answer) un = cc un
  as_begun steps (SentAgain number) un = tt
  as_begun steps NoAnswer un = tt
  as_begun steps NotFollowed un = tt

  -- it was given up
  as_given_up : (steps : List (Step K Q A)) (began ending : Ending K A) → IsGivenUp ending → Became steps began ending
  as_given_up steps began (Waits asked) up = cc (up.1)
  as_given_up steps began Alone up = tt
  as_given_up steps began (Answered by answer) up = cc (up.0)
  as_given_up steps began (SentAgain number) up = tt
  as_given_up steps began NoAnswer up = tt
  as_given_up steps began NotFollowed up = tt

  -- the one that was read at an index
  read_made : (steps : List (Step K Q A)) (list : List (Exchange K Q A)) (index : ℕ) (e : Exchange K Q A) → index < length list → e ≡ slice_index_or list index e → All (IsMadeBy steps) list → IsMadeBy steps e
  read_made steps list index e within is made = subst (IsMadeBy steps) (sym is) (All-get_or (IsMadeBy steps) list index e within made)

  first_in : (step : Step K Q A) (steps : List (Step K Q A)) → Contains (step ∷ steps) step
  first_in step steps = Contains-append_left (step ∷ []) steps step (0, lit< tt, refl)

  others_in : (all : List (Step K Q A)) (step : Step K Q A) (steps : List (Step K Q A)) → ((s : Step K Q A) → Contains (step ∷ steps) s → Contains all s) → (s : Step K Q A) → Contains steps s → Contains all s
  others_in all step steps among s is = among s (Contains-append_right (step ∷ []) steps s is)

  -- with another ending
  made_ended : (all : List (Step K Q A)) (ending : Ending K A) (e : Exchange K Q A) (m : IsMadeBy all e) → Became all m.ending ending → IsMadeBy all (ended ending e)
  made_ended all ending e m became = record { counts = m.counts; ending = m.ending; began = m.began; said = m.said; became = became }

  -- with another count
  made_counting : (all : List (Step K Q A)) (counts : Bool) (e : Exchange K Q A) → IsMadeBy all e → IsMadeBy all (counting counts e)
  made_counting all counts e m = record { counts = m.counts; ending = m.ending; began = m.began; said = m.said; became = m.became }

  made_resent : (all : List (Step K Q A)) (number : ℕ) (e : Exchange K Q A) → IsMadeBy all e → IsMadeBy all (resent number e)
  made_resent all number e m = record { counts = m.counts; ending = m.ending; began = m.began; said = m.said; became = tt }

  all_made : (all : List (Step K Q A)) (gone : ℕ) (old : List (Exchange K Q A)) (steps : List (Step K Q A)) (finished new : List (Exchange K Q A)) → ((s : Step K Q A) → Contains steps s → Contains all s) → All (IsMadeBy all) old
      → HasRun gone old steps finished new → All (IsMadeBy all) (finished ++ new)
  all_made all gone old [] finished new among made h =
      subst (λ xs. All (IsMadeBy all) (xs ++ new)) (sym h.0) (All-same (IsMadeBy all) new old h.1 made)
  all_made all gone old (begins number first counts ending ∷ steps) finished new among made h =
      let one : IsMadeBy all (begun number first counts ending) = record {
        counts = counts;
        ending = ending;
        began = among (begins number first counts ending) (first_in (begins number first counts ending) steps);
        said = tt;
        became = as_begun all ending h.0;
      } in
      all_made all gone (old ++ begun number first counts ending ∷ []) steps finished new (others_in all (begins number first counts ending) steps among)
      (All-push (IsMadeBy all) old (begun number first counts ending) made one) h.1
  all_made all gone old (answers place by asked answer ∷ steps) finished new among made h =
      let w = h.1.waited in
      let m = read_made all old h.1.index w.exchange w.within w.exchange_is made in
      let was : m.ending ≡ Waits asked = subst (Became all m.ending) h.2 m.became in
      let now : IsMadeBy all (ended (Answered by answer) w.exchange) = made_ended all (Answered by answer) w.exchange m
      (place, asked, was, among (answers place by asked answer) (first_in (answers place by asked answer) steps)) in
      all_made all gone h.0 steps finished new (others_in all (answers place by asked answer) steps among)
      (All-same (IsMadeBy all) h.0 _ h.1.new_is (All-set (IsMadeBy all) old h.1.index (ended (Answered by answer) w.exchange) now made)) h.3
  all_made all gone old (claims place by asked answer ∷ steps) finished new among made h =
      let w = h.1.waited in
      let m = read_made all old h.1.index w.exchange w.within w.exchange_is made in
      let was : m.ending ≡ Waits asked = subst (Became all m.ending) h.2 m.became in
      let now : IsMadeBy all (claimed by answer w.exchange) = record {
        counts = m.counts;
        ending = m.ending;
        began = m.began;
        said = (place, asked, was, among (claims place by asked answer) (first_in (claims place by asked answer) steps));
        became = m.became;
      } in
      all_made all gone h.0 steps finished new (others_in all (claims place by asked answer) steps among)
      (All-same (IsMadeBy all) h.0 _ h.1.new_is (All-set (IsMadeBy all) old h.1.index (claimed by answer w.exchange) now made)) h.3
  all_made all gone old (ends place ending ∷ steps) finished new among made h =
      let w = h.2.waited in
      let m = read_made all old h.2.index w.exchange w.within w.exchange_is made in
      let now : IsMadeBy all (ended ending w.exchange) = made_ended all ending w.exchange m (as_given_up all m.ending ending h.1) in
      all_made all gone h.0 steps finished new (others_in all (ends place ending) steps among)
      (All-same (IsMadeBy all) h.0 _ h.2.new_is (All-set (IsMadeBy all) old h.2.index (ended ending w.exchange) now made)) h.3
  all_made all gone old (hands_over first place ∷ steps) finished new among made h =
      let w = h.1.waited in
      let a = h.1.again in
      let one = made_resent all a.exchange.number w.exchange (read_made all old h.1.index w.exchange w.within w.exchange_is made) in
      let other = made_counting all w.exchange.counts a.exchange (read_made all old h.1.other a.exchange a.within a.exchange_is made) in
      let mid = slice_set old h.1.index (resent a.exchange.number w.exchange) in
      all_made all gone h.0 steps finished new (others_in all (hands_over first place) steps among)
      (All-same (IsMadeBy all) h.0 _ h.1.new_is (All-set (IsMadeBy all) mid h.1.other (counting w.exchange.counts a.exchange) other
      (All-set (IsMadeBy all) old h.1.index (resent a.exchange.number w.exchange) one made))) h.2
  all_made all gone old (finishes ∷ steps) finished new among made h =
      let here = All-same (IsMadeBy all) (h.0 ∷ h.1) old (sym h.3) made in
      let rest = all_made all (place_after gone 1) h.1 steps h.2 new (others_in all finishes steps among) (All-tail (IsMadeBy all) h.0 h.1 here) h.6 in
      subst (λ xs. All (IsMadeBy all) (xs ++ new)) (sym h.4) (All-cons (IsMadeBy all) h.0 (h.2 ++ new) (All-head (IsMadeBy all) h.0 h.1 here) rest)

  -- from the beginning
  pub made_from_none : (gone : ℕ) (steps : List (Step K Q A)) (finished new : List (Exchange K Q A)) → HasRun gone [] steps finished new → All (IsMadeBy steps) (finished ++ new)
  made_from_none gone steps finished new h = all_made steps gone [] steps finished new (λ s is. is) (All-nil (IsMadeBy steps)) h
