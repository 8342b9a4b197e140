-- The rows of a view among those of the table.
use Rattle.std.proofs.Common.{◌≡◌, ℕ, zero, suc, ◌↔◌, Bool, true, false, cond, List, [], ◌∷◌, sym, ap, ◌∙◌, refl, arith}
use Rattle.std.specs.Prelude.{Contains}
use Rattle.std.specs.List.{filter}
use Rattle.std.specs.List.Sorted.{IsPermutation}
use Rattle.std.specs.Str.{bytes_eq}
use Rattle.std.proofs.lemmas.List.Elements.{All-contains, All-filter, All-contains_itself, filter_passes}
use Rattle.std.proofs.lemmas.List.Sorted.{IsPermutation-sym, Contains-permutation}
use Rattle.std.proofs.lemmas.Slice.Eq.{bytes_eq-Decides}
use Rattle.vacm_core.specs.declared.rows.FamilyRow.{FamilyRow}
use Rattle.vacm_core.specs.View.{AreExact}
use Rattle.snmpsec_access.specs.Seen.{rows_of}

first_kept : {X : Type 0} (p : X → Bool) (y : X) (ys : List X) (x : X) (b : Bool) → p y ≡ b → y ≡ x → p x ≡ true → Contains (cond b (y ∷ filter p ys) (filter p ys)) x
first_kept p y ys x true e at h = (0, omega arith, at)
first_kept p y ys x false e at h = absurd (let f : false ≡ true = sym e ∙ ap p at ∙ h in cc)

later_kept : {X : Type 0} (y : X) (ys : List X) (x : X) (b : Bool) → Contains ys x → Contains (cond b (y ∷ ys) ys) x
later_kept y ys x true there = (suc there.0, omega (arith, there.1), there.2)
later_kept y ys x false there = there

Contains-filter : {X : Type 0} (p : X → Bool) (xs : List X) (x : X) → Contains xs x → p x ≡ true → Contains (filter p xs) x
Contains-filter p [] x c h = absurd (omega (arith, c.1))
Contains-filter p (y ∷ ys) x (zero, within, at) h = first_kept p y ys x (p y) refl at h
Contains-filter p (y ∷ ys) x (suc k, within, at) h = later_kept y (filter p ys) x (p y) (Contains-filter p ys x (k, omega (arith, within), at) h)

pub row_of : (families : List FamilyRow) (view : List ℕ) (row : FamilyRow) → Contains families row → row.view ≡ view → Contains (rows_of families view) row
row_of families view row there named = Contains-filter (λ (r : FamilyRow). bytes_eq r.view view) families row there ((bytes_eq-Decides row.view view).1 named)

pub among_all : (families : List FamilyRow) (view : List ℕ) (row : FamilyRow) → Contains (rows_of families view) row → Contains families row
among_all families view row c =
    All-contains (Contains families) (rows_of families view) row (All-filter (λ (r : FamilyRow). bytes_eq r.view view) (Contains families) families (All-contains_itself families)) c

pub of_view : (families : List FamilyRow) (view : List ℕ) (row : FamilyRow) → Contains (rows_of families view) row → row.view ≡ view
of_view families view row c =
    (bytes_eq-Decides row.view view).0
    (All-contains (λ (r : FamilyRow). bytes_eq r.view view ≡ true) (rows_of families view) row (filter_passes (λ (r : FamilyRow). bytes_eq r.view view) families) c)

-- moved rows are the same rows
pub back : (rows moved : List FamilyRow) → IsPermutation rows moved → (row : FamilyRow) → Contains moved row → Contains rows row
back rows moved p row c = Contains-permutation moved rows row (IsPermutation-sym rows moved p) c

pub exact_moved : (rows moved : List FamilyRow) → IsPermutation rows moved → AreExact rows ↔ AreExact moved
exact_moved rows moved p = (λ all row c. all row (back rows moved p row c), λ all row c. all row (Contains-permutation rows moved row p c))
