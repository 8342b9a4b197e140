-- A row with a subtree, searched for among references to rows that rise.
use Rattle.std.proofs.Common.{◌≡◌, ◌≢◌, ℕ, ◌+◌, ◌<◌, List, [], ◌∷◌, length, get_or, sym, ap, ◌∙◌, inl, inr, arith}
use Rattle.std.specs.Prelude.{Contains}
use Rattle.std.specs.Borrow.{Bor}
use Rattle.std.specs.Ordering.{is_lt, ordering_index}
use Rattle.std.specs.List.Sorted.{IsSorted, IsSortedBy, IsNonDecreasingBy, IsPartitionPoint}
use Rattle.std.specs.declared.cmp.Ordering.TheVariants.{Less, Equal, Greater}
use Rattle.std.proofs.lemmas.Bool.{cases_lt}
use Rattle.std.proofs.lemmas.Cmp.{tied_itself}
use Rattle.std.proofs.lemmas.List.{length-map, get_or_default}
use Rattle.std.proofs.lemmas.List.Sorted.{searchable_from_sorted}
use Rattle.vacm_core.specs.declared.rows.FamilyRow.{FamilyRow}
use Rattle.vacm_core.specs.Allowed.{family_order}
use Rattle.vacm_core.specs.Place.{arcs_order}
use Rattle.vacm_core.proofs.Exact.{arcs_total, arcs_exact}
use Rattle.snmpsec_access.specs.Rising.{rows_at}
use Rattle.snmpsec_access.proofs.Picks.{at_now, within_rows, item_at}

items_rise : (items : List (Bor FamilyRow)) → IsSorted family_order (rows_at items) → IsSortedBy (λ (a b : Bor FamilyRow). is_lt (family_order a.now b.now)) items
items_rise items rising k d low within =
    let long = length-map items (λ (r : Bor FamilyRow). r.now) in
    ap (λ (r : FamilyRow). is_lt (family_order r (get_or items k d).now)) (sym (at_now items (k + 1) d))
    ∙ ap (λ (r : FamilyRow). is_lt (family_order (get_or (rows_at items) (k + 1) d.now) r)) (sym (at_now items k d)) ∙ rising k d.now low (omega arith)

pub subtrees_rise : (items : List (Bor FamilyRow)) (subtree : List ℕ) → IsSorted family_order (rows_at items)
    → IsNonDecreasingBy (λ (y : Bor FamilyRow). ordering_index (arcs_order y.now.subtree subtree)) items
subtrees_rise items subtree rising = searchable_from_sorted arcs_total (λ (y : Bor FamilyRow). y.now.subtree) items subtree (items_rise items rising)

pub at_place : (items : List (Bor FamilyRow)) (subtree : List ℕ) (i : ℕ) (item : Bor FamilyRow) → i < length items → item ≡ get_or items i item
    → ((d : Bor FamilyRow) → arcs_order (get_or items i d).now.subtree subtree ≡ Equal) → Contains (rows_at items) item.now × (item.now.subtree ≡ subtree)
at_place items subtree i item within at holds = (
  (i, within_rows items i within, sym (item_at items i item at)),
  arcs_exact item.now.subtree subtree (ap (λ (r : Bor FamilyRow). arcs_order r.now.subtree subtree) at ∙ holds item),
)

some : (items : List (Bor FamilyRow)) (k : ℕ) → k < length items → Bor FamilyRow
some [] k within = absurd (omega (arith, within))
some (x ∷ xs) k within = x

pub nowhere : (items : List (Bor FamilyRow)) (subtree : List ℕ) (i : ℕ)
    → IsPartitionPoint (λ (y : Bor FamilyRow). arcs_order y.now.subtree subtree ≡ Less) (λ (y : Bor FamilyRow). arcs_order y.now.subtree subtree ≡ Greater) items i
    → (row : FamilyRow) → Contains (rows_at items) row → row.subtree ≢ subtree
nowhere items subtree i point row c same =
    let long = length-map items (λ (r : Bor FamilyRow). r.now) in
    let inside : c.0 < length items = omega (arith, c.1) in
    let e = some items c.0 inside in
    let is : (get_or items c.0 e).now ≡ row = sym (at_now items c.0 e) ∙ get_or_default (rows_at items) c.0 e.now row c.1 ∙ c.2 in
    let tied : arcs_order (get_or items c.0 e).now.subtree subtree ≡ Equal =
    ap (λ (r : FamilyRow). arcs_order r.subtree subtree) is ∙ ap (λ (xs : List ℕ). arcs_order xs subtree) same ∙ tied_itself arcs_total subtree in
    elim (cases_lt c.0 i) [
      | inl before ↦ let f : Less ≡ Equal = sym (point.0 c.0 e (omega arith) before) ∙ tied in cc
      | inr from ↦ let f : Greater ≡ Equal = sym (point.1 c.0 e from inside) ∙ tied in cc
    ]
