-- Which datagrams the steps take.
use Rattle.std.proofs.Common.{◌≡◌, ◌∙◌, ◌++◌, ℕ, Bool, true, false, List, [], ◌∷◌, ap, refl, subst}
use Rattle.diagnose_exchanges.specs.declared.exchange.Ending.{Ending}
use Rattle.diagnose_exchanges.specs.declared.exchange.Exchange.{Exchange}
use Rattle.diagnose_exchanges.specs.Exchanges.{Ends, HandsOver, HasRun, IsGivenUp, IsUnanswered, Step, Takes, TakesBy, begins, answers, claims, ends, hands_over, finishes, begun, taken_by}

module _ {K Q A : Type 0} where
  pub begun_takes : (number gone : ℕ) (old new : List (Exchange K Q A)) (first : Q) (counts : Bool) (ending : Ending K A) → IsUnanswered ending
      → new ≡ old ++ begun number first counts ending ∷ [] → TakesBy (begins number first counts ending) gone old new
  begun_takes number gone old new first counts ending un is = ([], refl, (un, (refl, is)))

  ended_takes : (gone : ℕ) (old new : List (Exchange K Q A)) (place : ℕ) (ending : Ending K A) → IsGivenUp ending → Ends gone old new place ending → Takes [] gone old new
  ended_takes gone old new place ending un e = (ends place ending ∷ [], refl, (new, un, e, (refl, refl)))

  pub handed_takes : (gone : ℕ) (old new : List (Exchange K Q A)) (first place : ℕ) → HandsOver gone old new first place → Takes [] gone old new
  handed_takes gone old new first place h = (hands_over first place ∷ [], refl, (new, h, (refl, refl)))

  pub same_takes : (gone : ℕ) (old new : List (Exchange K Q A)) → new ≡ old → Takes [] gone old new
  same_takes gone old new is = ([], refl, (refl, is))

  -- the one at a place ended, or nothing changed
  pub ended_or_same : (gone other : ℕ) (old new : List (Exchange K Q A)) (place : ℕ) (ending : Ending K A) (did : Bool) → other ≡ gone → IsGivenUp ending
      → (did ≡ true → Ends other old new place ending) → (did ≡ false → new ≡ old) → Takes [] gone old new
  ended_or_same gone other old new place ending true is un e s = subst (λ g. Takes [] g old new) is (ended_takes other old new place ending un (e refl))
  ended_or_same gone other old new place ending false is un e s = same_takes gone old new (s refl)

  taken_append : (steps more : List (Step K Q A)) → taken_by (steps ++ more) ≡ taken_by steps ++ taken_by more
  taken_append [] more = refl
  taken_append (begins number first counts ending ∷ steps) more = ap (λ ns. number ∷ ns) (taken_append steps more)
  taken_append (answers place by asked answer ∷ steps) more = ap (λ ns. by ∷ ns) (taken_append steps more)
  taken_append (claims place by asked answer ∷ steps) more = ap (λ ns. by ∷ ns) (taken_append steps more)
  taken_append (ends place ending ∷ steps) more = taken_append steps more
  taken_append (hands_over first place ∷ steps) more = taken_append steps more
  taken_append (finishes ∷ steps) more = taken_append steps more

  run_append : (gone : ℕ) (old mid new : List (Exchange K Q A)) (steps more : List (Step K Q A)) → HasRun gone old steps [] mid → HasRun gone mid more [] new → HasRun gone old (steps ++ more) [] new
  run_append gone old mid new [] more h k = subst (λ xs. HasRun gone xs more [] new) h.1 k
  run_append gone old mid new (begins number first counts ending ∷ steps) more h k = (h.0, run_append gone _ mid new steps more h.1 k)
  run_append gone old mid new (answers place by asked answer ∷ steps) more h k = (h.0, h.1, h.2, run_append gone h.0 mid new steps more h.3 k)
  run_append gone old mid new (claims place by asked answer ∷ steps) more h k = (h.0, h.1, h.2, run_append gone h.0 mid new steps more h.3 k)
  run_append gone old mid new (ends place ending ∷ steps) more h k = (h.0, h.1, h.2, run_append gone h.0 mid new steps more h.3 k)
  run_append gone old mid new (hands_over first place ∷ steps) more h k = (h.0, h.1, run_append gone h.0 mid new steps more h.2 k)
  run_append gone old mid new (finishes ∷ steps) more h k = cc (h.4)

  -- further steps that take no datagram
  pub then_none : (step : Step K Q A) (gone : ℕ) (old mid new : List (Exchange K Q A)) → TakesBy step gone old mid → Takes [] gone mid new → TakesBy step gone old new
  then_none step gone old mid new (steps, none, run) (more, none_more, run_more) =
      (steps ++ more, taken_append steps more ∙ ap (λ xs. xs ++ taken_by more) none ∙ none_more, run_append gone old mid new (step ∷ steps) more run run_more)
