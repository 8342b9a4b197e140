-- From the rows of a view, from the least up, to what is reported of the view.
use Rattle.std.proofs.Common.{◌≡◌, ◌≢◌, ℕ, ◌<◌, List, [], ◌∷◌, length, map, sym, subst, refl, inl, inr, arith}
use Rattle.std.specs.Prelude.{Contains}
use Rattle.std.specs.Borrow.{Bor}
use Rattle.std.proofs.lemmas.List.Sorted.{Contains-permutation}
use Rattle.vacm_core.specs.declared.rows.FamilyRow.{FamilyRow}
use Rattle.vacm_core.specs.declared.access.Access.TheVariants.{NoSuchView}
use Rattle.vacm_core.specs.Allowed.{HasView}
use Rattle.vacm_core.specs.View.{AnswersView}
use Rattle.snmpsec_access.specs.Seen.{refusal, by_lines, answer_of, line_of, rows_of}
use Rattle.snmpsec_access.specs.Rising.{AreRising, AreKept, IsOfView, rows_at}
use Rattle.snmpsec_access.proofs.Members.{row_of, among_all, of_view, back, exact_moved}
use Rattle.snmpsec_access.proofs.Decides.{decides}
use Rattle.snmpsec_access.proofs.Shortens.{lines_needed}

-- references to no row, and to some
pub no_rows : (items : List (Bor FamilyRow)) → length items ≡ 0 → rows_at items ≡ []
no_rows [] none = refl
no_rows (item ∷ items) none = absurd (omega (arith, none))

pub some_rows : (items : List (Bor FamilyRow)) → length items ≢ 0 → 0 < length (rows_at items)
some_rows [] some = absurd (some refl)
some_rows (item ∷ items) some = omega arith

module _ (families rising : List FamilyRow) (view : List ℕ) (are : AreRising families view rising) where
  in_view : (row : FamilyRow) → Contains rising row → Contains (rows_of families view) row
  in_view row c = back (rows_of families view) rising are.moved row c

  pub one_each_of : ((x y : FamilyRow) → Contains families x → Contains families y → x.view ≡ y.view → x.subtree ≡ y.subtree → x ≡ y)
      → (x y : FamilyRow) → Contains rising x → Contains rising y → x.subtree ≡ y.subtree → x ≡ y
  one_each_of one_each x y c d same =
      one_each x y (among_all families view x (in_view x c)) (among_all families view y (in_view y d))
      (let e = of_view families view x (in_view x c) in let f = of_view families view y (in_view y d) in cc) same

  pub no_view : rising ≡ [] → IsOfView families view (refusal NoSuchView)
  no_view none = (
    tt,
    λ variable has.
        let row = has.has_row.0 in
        let c : Contains [] row = subst (λ (rows : List FamilyRow). Contains rows row) none (Contains-permutation (rows_of families view) rising row are.moved (row_of families view row has.has_row.1 has.has_row.2)) in
        absurd (omega (arith, c.1)),
  )

  module _ (named : view ≢ []) (some : 0 < length rising) where
    has_view : HasView families view
    has_view = by rising some (λ row c. in_view row c)
      where
        by : (rows : List FamilyRow) → 0 < length rows → ((row : FamilyRow) → Contains rows row → Contains (rows_of families view) row) → HasView families view
        by [] within all = absurd (omega (arith, within))
        by (row ∷ rows) within all =
            let c = all row (0, omega arith, refl) in
            record { named = named; has_row = (row, among_all families view row c, of_view families view row c) }

    pub told_kept : (kept : List FamilyRow) → AreKept rising kept → IsOfView families view (by_lines (map line_of kept))
    told_kept kept (inl (exact, left)) = (
      λ variable. subst (λ says. AnswersView families view variable (answer_of says)) (sym (left.same variable)) (decides families rising view variable are has_view),
      record {
        rows = kept;
        lines_of = refl;
        among = λ row c. in_view row (left.among row c);
        rising = left.rising;
        kept = inl ((exact_moved (rows_of families view) rising are.moved).1 exact, lines_needed rising kept left);
      },
    )
    told_kept kept (inr (not_exact, same)) = subst (λ (rows : List FamilyRow). IsOfView families view (by_lines (map line_of rows))) (sym same) (
      λ variable. decides families rising view variable are has_view,
      record {
        rows = rising;
        lines_of = refl;
        among = in_view;
        rising = are.rising;
        kept = inr ((λ exact. not_exact ((exact_moved (rows_of families view) rising are.moved).0 exact)), are.moved);
      },
    )
