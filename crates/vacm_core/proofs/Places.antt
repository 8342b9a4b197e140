-- Where the rows of each name are.
use Rattle.std.proofs.Common.{◌≡◌, ◌≢◌, ℕ, zero, suc, ◌+◌, ◌-◌, ◌<◌, ◌≤◌, Bool, true, false, cond, not, nat_eq, nat_lt, List, [], length, get_or, slice_range, Some, None, MatchBool, sym, ap, subst, ◌∙◌, refl, inl, inr, arith}
use Rattle.std.specs.Map.{lookup}
use Rattle.std.specs.Cmp.Lexicographic.{pointwise}
use Rattle.std.specs.Ordering.{ordering_index}
use Rattle.std.specs.List.Sorted.{IsPartitionPoint}
use Rattle.std.specs.declared.cmp.Ordering.{Ordering}
use Rattle.std.specs.declared.cmp.Ordering.TheVariants.{Less, Equal, Greater}
use Rattle.std.proofs.lemmas.Bool.{cases_lt}
use Rattle.std.proofs.lemmas.Bool.Decides.{nat_tests}
use Rattle.std.proofs.lemmas.Option.{same_Some}
use Rattle.std.proofs.lemmas.Map.Lookups.{exact_bytes}
use Rattle.std.proofs.lemmas.Slice.Eq.{bytes_eq-Decides}
use Rattle.vacm_core.specs.RowOrder.{side_of, AreInPlace, IsFirstPlace, AreRuns, IsRunOf}
use Rattle.vacm_core.specs.declared.table.Run.{Run}
use Rattle.vacm_core.proofs.Runs.{at_name, sides_rise}

same_only : (o : Ordering) → ordering_index o ≡ 1 → o ≡ Equal
same_only Less h = cc
same_only Equal h = refl
same_only Greater h = cc

-- names that are compared
pub differ_or_same : (x y : List ℕ) (P Q : Type 0) (r : Bool) → r ≡ not (pointwise nat_eq x y) → (x ≢ y → P) → (x ≡ y → Q) → MatchBool r P Q
differ_or_same x y P Q r is differ same = by (pointwise nat_eq x y) refl
  where
    by : (b : Bool) → pointwise nat_eq x y ≡ b → MatchBool r P Q
    by true e = let no : r ≡ false = is ∙ ap not e in rw no (same ((bytes_eq-Decides x y).0 e))
    by false e = let yes : r ≡ true = is ∙ ap not e in rw yes (differ (λ equal. let t : pointwise nat_eq x y ≡ true = (bytes_eq-Decides x y).1 equal in cc))

module _ {R : Type 0} (name : R → List ℕ) (rank : R → R → Ordering) (rows : List R) (stands : AreInPlace name rank rows) where
  side_is : (wanted : List ℕ) (row : R) → side_of name wanted row ≡ 1 → name row ≡ wanted
  side_is wanted row h = exact_bytes _ _ (same_only _ h)

  -- a row with another name than the one before it is the first of its name
  pub other_name : (place : ℕ) → place < length rows → ((d : R) → name (get_or rows (place - 1) d) ≢ name (get_or rows place d))
      → (k : ℕ) (d : R) → k < place → name (get_or rows k d) ≢ name (get_or rows place d)
  other_name place within differs k d before same =
      let wanted = name (get_or rows place d) in
      let rise = sides_rise name rank wanted rows stands in
      let here : side_of name wanted (get_or rows place d) ≡ 1 = at_name name rank wanted (get_or rows place d) refl in
      let there : side_of name wanted (get_or rows k d) ≡ 1 = at_name name rank wanted (get_or rows k d) same in
      let low = rise k (place - 1) d (omega arith) (omega arith) in
      let high = rise (place - 1) place d (omega arith) within in
      differs d (side_is wanted (get_or rows (place - 1) d) (omega (arith, here, there, low, high)))

  -- the first row of a name parts the rows before the name from the others
  pub first_point : (wanted : List ℕ) (place : ℕ) → place < length rows → IsFirstPlace name rows wanted place
      → IsPartitionPoint (λ row. nat_lt (side_of name wanted row) 1 ≡ true) (λ row. nat_lt (side_of name wanted row) 1 ≡ false) rows place
  first_point wanted place within first = (
    λ k d long before.
        let here : side_of name wanted (get_or rows place d) ≡ 1 = at_name name rank wanted (get_or rows place d) (first.named d) in
        let low = sides_rise name rank wanted rows stands k place d (omega arith) within in
        below (side_of name wanted (get_or rows k d)) (omega (arith, here, low)) (λ e. first.none_before k d before (side_is wanted (get_or rows k d) e)),
    λ k d from long.
        let here : side_of name wanted (get_or rows place d) ≡ 1 = at_name name rank wanted (get_or rows place d) (first.named d) in
        let high = sides_rise name rank wanted rows stands place k d from long in
        above (side_of name wanted (get_or rows k d)) (omega (arith, here, high)),
  )
    where
      below : (n : ℕ) → n ≤ 1 → (n ≢ 1) → nat_lt n 1 ≡ true
      below zero h e = refl
      below (suc zero) h e = absurd (e refl)
      below (suc (suc n)) h e = absurd (omega arith)

      above : (n : ℕ) → 1 ≤ n → nat_lt n 1 ≡ false
      above n h = grind (arith, nat_tests)

-- ---- rows that are looked at one by one
module _ {R : Type 0} (name : R → List ℕ) (rank : R → R → Ordering) (rows : List R) where
  pub none_looked_at : (entries : List (List ℕ × Run)) → entries ≡ [] → AreRuns name rank rows 0 entries
  none_looked_at entries none = subst (λ es. AreRuns name rank rows 0 es) (sym none) empty
    where
      empty : AreRuns name rank rows 0 []
      empty = record { within = λ w r e. absurd cc; is_run = λ w r e. absurd cc; missing = λ w e k d h. absurd (omega arith); short = λ k d h. absurd (omega arith) }

  module _ (place : ℕ) (old : List (List ℕ × Run)) (known : AreRuns name rank rows place old) where
    -- a row of the same name as the one before it
    pub same_more : 0 < place → ((d : R) → name (get_or rows (place - 1) d) ≡ name (get_or rows place d)) → AreRuns name rank rows (place + 1) old
    same_more some same = record {
      within = known.within;
      is_run = known.is_run;
      missing = λ w e k d h. elim (cases_lt k place) [
        | inl lower ↦ known.missing w e k d lower
        | inr from ↦
            let is : place ≡ k = omega arith in
            λ there. known.missing w e (place - 1) d (omega arith) (same d ∙ ap (λ n. name (get_or rows n d)) is ∙ there)
      ];
      short = λ k d h. elim (cases_lt k place) [
        | inl lower ↦ known.short k d lower
        | inr from ↦
            let is : place ≡ k = omega arith in
            subst (λ n. length n ≤ 32) (same d ∙ ap (λ n. name (get_or rows n d)) is) (known.short (place - 1) d (omega arith))
      ];
    }

    -- a row with a new name
    module _ (new : List (List ℕ × Run)) (key : List ℕ) (run : Run) (fits : length key ≤ 32) (at : (d : R) → name (get_or rows place d) ≡ key)
        (within : (run.first ≤ run.end) × (run.end ≤ length rows)) (is_run : IsRunOf name rank key rows (slice_range rows run.first run.end))
        (put : (w : List ℕ) → lookup (pointwise nat_eq w) new ≡ cond (pointwise nat_eq key w) (Some run) (lookup (pointwise nat_eq w) old)) where
      within_by : (w : List ℕ) (r : Run) (b : Bool) → cond b (Some run) (lookup (pointwise nat_eq w) old) ≡ Some r → (r.first ≤ r.end) × (r.end ≤ length rows)
      within_by w r true e = subst (λ (x : Run). (x.first ≤ x.end) × (x.end ≤ length rows)) (same_Some _ _ e) within
      within_by w r false e = known.within w r e

      run_by : (w : List ℕ) (r : Run) (b : Bool) → pointwise nat_eq key w ≡ b → cond b (Some run) (lookup (pointwise nat_eq w) old) ≡ Some r → IsRunOf name rank w rows (slice_range rows r.first r.end)
      run_by w r true is e =
          let same : key ≡ w = (bytes_eq-Decides key w).0 is in
          subst (λ (x : Run). IsRunOf name rank w rows (slice_range rows x.first x.end)) (same_Some _ _ e)
          (subst (λ n. IsRunOf name rank n rows (slice_range rows run.first run.end)) same is_run)
      run_by w r false is e = known.is_run w r e

      missing_by : (w : List ℕ) (b : Bool) → pointwise nat_eq key w ≡ b → cond b (Some run) (lookup (pointwise nat_eq w) old) ≡ None → (k : ℕ) (d : R) → k < place + 1 → name (get_or rows k d) ≢ w
      missing_by w true is e k d h has = absurd cc
      missing_by w false is e k d h has = elim (cases_lt k place) [
        | inl lower ↦ known.missing w e k d lower has
        | inr from ↦
            let here : k ≡ place = omega arith in
            let same : key ≡ w = sym (at d) ∙ ap (λ n. name (get_or rows n d)) (sym here) ∙ has in
            let yes : pointwise nat_eq key w ≡ true = (bytes_eq-Decides key w).1 same in cc
      ]

      pub new_more : AreRuns name rank rows (place + 1) new
      new_more = record {
        within = λ w r e. within_by w r (pointwise nat_eq key w) (sym (put w) ∙ e);
        is_run = λ w r e. run_by w r (pointwise nat_eq key w) refl (sym (put w) ∙ e);
        missing = λ w e. missing_by w (pointwise nat_eq key w) refl (sym (put w) ∙ e);
        short = λ k d h. elim (cases_lt k place) [
          | inl lower ↦ known.short k d lower
          | inr from ↦
              let here : place ≡ k = omega arith in
              subst (λ n. length n ≤ 32) (sym (at d) ∙ ap (λ n. name (get_or rows n d)) here) fits
        ];
      }

-- ---- what is kept of a name
module _ {R : Type 0} (name : R → List ℕ) (rank : R → R → Ordering) (wanted : List ℕ) (rows : List R) where
  pub none_missing : (entries : List (List ℕ × Run)) → AreRuns name rank rows (length rows) entries → (key : List ℕ) → key ≡ wanted → None ≡ lookup (pointwise nat_eq key) entries
      → (k : ℕ) (d : R) → k < length rows → name (get_or rows k d) ≢ wanted
  none_missing entries known key is none = known.missing wanted (subst (λ w. lookup (pointwise nat_eq w) entries ≡ None) is (sym none))

  pub none_long : (entries : List (List ℕ × Run)) → AreRuns name rank rows (length rows) entries → 32 < length wanted → (k : ℕ) (d : R) → k < length rows → name (get_or rows k d) ≢ wanted
  none_long entries known long k d h has = let s = subst (λ n. length n ≤ 32) has (known.short k d h) in absurd (omega (arith, s, long))

  pub run_found : (entries : List (List ℕ × Run)) → AreRuns name rank rows (length rows) entries → (key : List ℕ) → key ≡ wanted → (run : Run) → Some run ≡ lookup (pointwise nat_eq key) entries
      → (run.first ≤ run.end) × (run.end ≤ length rows) × IsRunOf name rank wanted rows (slice_range rows run.first run.end)
  run_found entries known key is run some =
      let there : lookup (pointwise nat_eq wanted) entries ≡ Some run = subst (λ w. lookup (pointwise nat_eq w) entries ≡ Some run) is (sym some) in
      let within = known.within wanted run there in
      (within.0, within.1, known.is_run wanted run there)

  pub no_run : ((k : ℕ) (d : R) → k < length rows → name (get_or rows k d) ≢ wanted) → IsRunOf name rank wanted rows []
  no_run none = record {
    named = λ row c. absurd (omega (arith, c.1));
    among = λ row c. absurd (omega (arith, c.1));
    whole = λ row c named. absurd (none c.0 row c.1 (ap name c.2 ∙ named));
    falling = λ k d a b. absurd (omega (arith, b));
  }
