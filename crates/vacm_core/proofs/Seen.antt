-- What is wrong at a place, and the indexes of the rows before it.
use Rattle.std.proofs.Common.{◌≡◌, ℕ, ◌+◌, ◌<◌, Bool, true, false, not, ◌||◌, cond, List, [], ◌∷◌, ◌++◌, length, get_or, take, Some, None, sym, ap, ◌∙◌, refl, inl, inr, arith}
use Rattle.std.specs.List.{list_any, slice_get}
use Rattle.std.specs.BTreeSet.{contains}
use Rattle.std.specs.BTreeSet.{BTreeSet}
use Rattle.std.specs.Ordering.{is_eq}
use Rattle.std.specs.Option.{option_and_then}
use Rattle.std.specs.declared.cmp.Ordering.{Ordering}
use Rattle.std.proofs.lemmas.Option.{slice_get_read}
use Rattle.std.proofs.lemmas.Bool.{cases_lt}
use Rattle.std.proofs.lemmas.List.{take_more}
use Rattle.vacm_core.specs.declared.fault.Defect.TheVariants.{Bad, Twice}
use Rattle.vacm_core.specs.Faults.{row_fault, fault_in}

pub not_true : (b : Bool) → not b ≡ true → b ≡ false
not_true true h = cc
not_true false h = refl

pub not_false : (b : Bool) → not b ≡ false → b ≡ true
not_false true h = refl
not_false false h = cc

any_push : {R : Type 0} (p : R → Bool) (xs : List R) (x : R) → list_any p (xs ++ x ∷ []) ≡ cond (p x) true (list_any p xs)
any_push p [] x = one (p x)
  where
    one : (b : Bool) → (b || false) ≡ cond b true false
    one true = refl
    one false = refl
any_push p (y ∷ ys) x = ap (λ b. p y || b) (any_push p ys x) ∙ two (p y) (p x) (list_any p ys)
  where
    two : (a b c : Bool) → (a || cond b true c) ≡ cond b true (a || c)
    two true true c = refl
    two true false c = refl
    two false true c = refl
    two false false c = refl

module _ {R : Type 0} (is_bad : R → Bool) (is_same : R → R → Bool) (rows : List R) (i : ℕ) (row : R) (within : i < length rows) (at : row ≡ get_or rows i row) where
  fault_is : fault_in is_bad is_same rows i ≡ row_fault is_bad is_same (take i rows) row
  fault_is =
      let there : slice_get rows i ≡ Some row = slice_get_read rows (length rows) i row refl within at in
      ap (option_and_then (row_fault is_bad is_same (take i rows))) there

  of_tests : (bad twice : Bool) → is_bad row ≡ bad → list_any (is_same row) (take i rows) ≡ twice → fault_in is_bad is_same rows i ≡ cond bad (Some Bad) (cond twice (Some Twice) None)
  of_tests bad twice is_b is_t =
      fault_is ∙ ap (λ b. cond b (Some Bad) (cond (list_any (is_same row) (take i rows)) (Some Twice) None)) is_b ∙ ap (λ t. cond bad (Some Bad) (cond t (Some Twice) None)) is_t

  pub bad_here : true ≡ is_bad row → fault_in is_bad is_same rows i ≡ Some Bad
  bad_here bad = fault_is ∙ ap (λ b. cond b (Some Bad) (cond (list_any (is_same row) (take i rows)) (Some Twice) None)) (sym bad)

  pub twice_here : false ≡ is_bad row → list_any (is_same row) (take i rows) ≡ true → fault_in is_bad is_same rows i ≡ Some Twice
  twice_here fine twice = of_tests false true (sym fine) twice

  pub none_more : ((j : ℕ) → j < i → fault_in is_bad is_same rows j ≡ None) → false ≡ is_bad row → list_any (is_same row) (take i rows) ≡ false → (j : ℕ) → j < i + 1 → fault_in is_bad is_same rows j ≡ None
  none_more none fine once j upto = elim (cases_lt j i) [
    | inl before ↦ none j before
    | inr from ↦
        let e : j ≡ i = omega arith in
        ap (fault_in is_bad is_same rows) e ∙ of_tests false false (sym fine) once
  ]

  pub seen_more : {K : Type 0} (cmp : K → K → Ordering) (index : R → K) → ((r other : R) → is_same r other ≡ is_eq (cmp (index other) (index r)))
      → (old new : BTreeSet K) (key : K) → key ≡ index row → ((q : K) → contains cmp new q ≡ cond (is_eq (cmp key q)) true (contains cmp old q))
      → ((r : R) → contains cmp old (index r) ≡ list_any (is_same r) (take i rows)) → (r : R) → contains cmp new (index r) ≡ list_any (is_same r) (take (i + 1) rows)
  seen_more cmp index law old new key is updates so_far r =
      let more : take (i + 1) rows ≡ take i rows ++ row ∷ [] = take_more rows i row within ∙ ap (λ x. take i rows ++ x ∷ []) (sym at) in
      let here : is_eq (cmp key (index r)) ≡ is_same r row = ap (λ k. is_eq (cmp k (index r))) is ∙ sym (law r row) in
      updates (index r) ∙ ap (λ b. cond b true (contains cmp old (index r))) here ∙ ap (cond (is_same r row) true) (so_far r)
      ∙ sym (any_push (is_same r) (take i rows) row) ∙ ap (list_any (is_same r)) (sym more)
