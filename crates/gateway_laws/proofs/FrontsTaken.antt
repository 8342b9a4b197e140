-- A front of a front is a front.
use Rattle.std.specs.Prelude.{◌≡◌, ◌⊎◌, ◌<◌, ◌≤◌, ◌++◌, ℕ, zero, suc, List, [], ◌∷◌, length, map, drop, take}
use Rattle.std.proofs.Common.{ap, arith, inl, inr, refl, subst, sym, ◌∙◌}
use Rattle.snmp_msg.specs.Variables.{Variable}
use Rattle.vacm_next.proofs.Order.{which}
use Rattle.snmp_responder.specs.Instrumentation.{Known}
use Rattle.snmp_responder.specs.Next.{AreNextAnswers}
use Rattle.gateway_laws.specs.Bulk.{AreFirstAnswers, IsFrontOfBulk, IsFrontOfRepetitions}

take_nothing : (k : ℕ) → take {A = Variable} k [] ≡ []
take_nothing zero = refl
take_nothing (suc k) = refl

take_short : (k : ℕ) (xs ys : List Variable) → k < length xs → take k (xs ++ ys) ≡ take k xs
take_short zero xs ys less = refl
take_short (suc k) [] ys less = absurd (omega (arith, less))
take_short (suc k) (x ∷ xs) ys less = ap (λ (zs : List Variable). x ∷ zs) (take_short k xs ys (omega (arith, less)))

take_long : (k : ℕ) (xs ys : List Variable) → length xs ≤ k → (j : ℕ) × (take k (xs ++ ys) ≡ xs ++ take j ys)
take_long k [] ys more = (k, refl)
take_long zero (x ∷ xs) ys more = absurd (omega (arith, more))
take_long (suc k) (x ∷ xs) ys more = let rest = take_long k xs ys (omega (arith, more)) in (rest.0, ap (λ (zs : List Variable). x ∷ zs) rest.1)

at_least : (k n : ℕ) → (k ≡ n) ⊎ (n < k) → n ≤ k
at_least k n (inl same) = omega (arith, same)
at_least k n (inr more) = omega (arith, more)

module _ (device : Known) (Seen : List ℕ → Type 0) where
  first_take : (names : List (List ℕ)) (vs : List Variable) (k : ℕ) → AreFirstAnswers device Seen names vs → AreFirstAnswers device Seen names (take k vs)
  first_take [] vs k is = absurd is
  first_take (name ∷ names) [] zero is = tt
  first_take (name ∷ names) [] (suc k) is = tt
  first_take (name ∷ names) (v ∷ vs) zero is = tt
  first_take (name ∷ names) (v ∷ vs) (suc k) is = (is.0, first_take names vs k is.1)

  row_take : (names : List (List ℕ)) (row : List Variable) (k : ℕ) → k < length row → AreNextAnswers device Seen names row → AreFirstAnswers device Seen names (take k row)
  row_take [] [] k less answers = absurd (omega (arith, less))
  row_take [] (v ∷ vs) k less answers = absurd answers
  row_take (name ∷ names) [] k less answers = absurd answers
  row_take (name ∷ names) (v ∷ vs) zero less answers = tt
  row_take (name ∷ names) (v ∷ vs) (suc k) less answers = (answers.0, row_take names vs k (omega (arith, less)) answers.1)

  -- fewer of them than a row has
  cut_row : (names : List (List ℕ)) (vs row rest : List Variable) (k : ℕ) → vs ≡ row ++ rest → k < length row → AreNextAnswers device Seen names row → AreFirstAnswers device Seen names (take k vs)
  cut_row names vs row rest k are less answers = subst (AreFirstAnswers device Seen names) (sym (ap (take k) are ∙ take_short k row rest less)) (row_take names row k less answers)

  repetitions_take : (n : ℕ) (names : List (List ℕ)) (vs : List Variable) (k : ℕ) → IsFrontOfRepetitions device Seen n names vs → IsFrontOfRepetitions device Seen n names (take k vs)
  repetitions_take zero names vs k none = ap (take k) none ∙ take_nothing k
  repetitions_take (suc n) names vs k (inl first) = inl (first_take names vs k first)
  repetitions_take (suc n) names vs k (inr (row, rest, are, answers, more)) = elim (which k (length row)) [
    | inl less ↦ inl (cut_row names vs row rest k are less answers)
    | inr enough ↦
        let long = take_long k row rest (at_least k (length row) enough) in
        inr (
          row,
          take long.0 rest,
          ap (take k) are ∙ long.1,
          answers,
          elim more [
            | inl over ↦ inl (over.0, ap (take long.0) over.1 ∙ take_nothing long.0)
            | inr further ↦ inr (further.0, repetitions_take n (map (λ (v : Variable). v.name) row) rest long.0 further.1)
          ],
        )
  ]

  pub bulk_take : (names : List (List ℕ)) (n most : ℕ) (vs : List Variable) (k : ℕ) → IsFrontOfBulk device Seen names n most vs → IsFrontOfBulk device Seen names n most (take k vs)
  bulk_take names n most vs k (inl first) = inl (first_take (take n names) vs k first)
  bulk_take names n most vs k (inr (single, rest, are, answers, further)) = elim (which k (length single)) [
    | inl less ↦ inl (cut_row (take n names) vs single rest k are less answers)
    | inr enough ↦
        let long = take_long k single rest (at_least k (length single) enough) in
        inr (single, take long.0 rest, ap (take k) are ∙ long.1, answers, repetitions_take most (drop n names) rest long.0 further)
  ]
