-- Rows that compare each arc, and those of them that begin with some arcs.
use Rattle.std.proofs.Common.{◌≡◌, ◌≢◌, ℕ, zero, suc, ◌+◌, ◌<◌, ◌≤◌, true, false, nat_lt, List, [], ◌∷◌, length, get_or, take, Contains, sym, ap, subst, ◌∙◌, refl, inl, inr, arith, length-take}
use Rattle.std.specs.List.Sorted.{IsPartitionedBy, IsPartitionPoint, IsNonDecreasingBy}
use Rattle.std.specs.Cmp.{IsTotalOrder}
use Rattle.std.specs.Cmp.Lexicographic.{slice_cmp}
use Rattle.std.specs.Ordering.{nat_cmp, ordering_then, ordering_index, ordering_reverse, is_lt}
use Rattle.std.specs.declared.cmp.Ordering.{Ordering}
use Rattle.std.specs.declared.cmp.Ordering.TheVariants.{Less, Equal, Greater}
use Rattle.std.proofs.lemmas.Bool.{cases_lt}
use Rattle.std.proofs.lemmas.Bool.Decides.{nat_tests}
use Rattle.std.proofs.lemmas.Grind.{same_number_lists}
use Rattle.std.proofs.lemmas.Cmp.{nat_cmp_total, nat_list_cmp_total, on_total, back_total, tied_itself}
use Rattle.std.proofs.lemmas.List.{get_or-take, get_or_default}
use Rattle.std.proofs.lemmas.List.Sorted.{searchable_from_sorted, IsPartitionedBy-ltb}
use Rattle.vacm_core.specs.declared.rows.FamilyRow.{FamilyRow}
use Rattle.vacm_core.specs.Allowed.{family_order}
use Rattle.vacm_core.specs.RowOrder.{AreFalling}
use Rattle.vacm_core.specs.View.{IsExact, AreExact, IsUnder, NoneUnder, IsPast, front_key, is_before}
use Rattle.vacm_core.specs.Laws.{family_order-total}
use Rattle.vacm_core.proofs.First.{not_exceeded}
use Rattle.vacm_core.proofs.Exact.{no_more_arcs}

not_less : (o : Ordering) → o ≢ Less → is_lt o ≡ false
not_less Less h = absurd (h refl)
not_less Equal h = refl
not_less Greater h = refl

less_not : (o : Ordering) → is_lt o ≡ false → o ≢ Less
less_not Less h e = cc
less_not Equal h e = cc
less_not Greater h e = cc

-- ---- the first arcs of rows that fall

fronts_by : (o : Ordering) (p q : Ordering) → (p ≢ Less → q ≢ Less) → ordering_then o p ≢ Less → ordering_then o q ≢ Less
fronts_by Less p q more h = h
fronts_by Equal p q more h = more h
fronts_by Greater p q more h = h

pub fronts_fall : (n : ℕ) (xs ys : List ℕ) → slice_cmp nat_cmp xs ys ≢ Less → slice_cmp nat_cmp (take n xs) (take n ys) ≢ Less
fronts_fall zero xs ys h e = cc
fronts_fall (suc n) [] [] h e = cc
fronts_fall (suc n) [] (y ∷ ys) h e = h refl
fronts_fall (suc n) (x ∷ xs) [] h e = cc
fronts_fall (suc n) (x ∷ xs) (y ∷ ys) h e = fronts_by (nat_cmp x y) (slice_cmp nat_cmp xs ys) (slice_cmp nat_cmp (take n xs) (take n ys)) (fronts_fall n xs ys) h e

module _ (rows : List FamilyRow) (falling : AreFalling family_order rows) (w : List ℕ) where
  abbrev key_order : FamilyRow → FamilyRow → Ordering
  key_order a b = slice_cmp nat_cmp (front_key w a) (front_key w b)

  keys_fall : AreFalling key_order rows
  keys_fall k d from within =
      let a = get_or rows k d in
      let b = get_or rows (k + 1) d in
      not_less _ (fronts_by (nat_cmp (length a.subtree) (length b.subtree)) (slice_cmp nat_cmp a.subtree b.subtree) (slice_cmp nat_cmp (take (length w) a.subtree) (take (length w) b.subtree))
      (fronts_fall (length w) a.subtree b.subtree) (less_not _ (falling k d from within)))

  keys_total : IsTotalOrder key_order
  keys_total = on_total (front_key w) nat_list_cmp_total

  pub parted : (size : ℕ) → IsPartitionedBy (is_before size w) rows
  parted size =
      let rise : IsNonDecreasingBy (λ row. ordering_index (slice_cmp nat_cmp (size ∷ w) (front_key w row))) rows =
      searchable_from_sorted (back_total nat_list_cmp_total) (front_key w) rows (size ∷ w) (λ k d from within. keys_fall k d from within) in
      IsPartitionedBy-ltb (λ row. ordering_index (slice_cmp nat_cmp (size ∷ w) (front_key w row))) rows 1 rise

  -- ---- a row that begins so

  -- the first arcs of a row that is under the beginning are the beginning
  front_is : (row : FamilyRow) → IsExact row → IsUnder w row → take (length w) row.subtree ≡ w
  front_is row exact under =
      let l = length-take (length w) row.subtree in
      let longer = under.longer in
      let same : length (take (length w) row.subtree) ≡ length w = omega arith in
      same_number_lists _ _ same
      (λ k within.
      let inside : k < length w = omega (arith, within, same) in
      get_or-take (length w) row.subtree k 0 inside ∙ under.agrees k (omega (arith, inside, longer)) inside (exact k (omega (arith, inside, longer))))

  less_by : (size more : ℕ) → slice_cmp nat_cmp (size ∷ w) (more ∷ w) ≡ Less → size < more
  less_by size more h = elim (cases_lt size more) [
    | inl less ↦ less
    | inr from ↦ absurd (elim (cases_lt more size) [
      | inl over ↦
          let g : nat_cmp size more ≡ Greater = grind (arith, nat_tests) in
          let e : Greater ≡ Less = sym (ap (λ o. ordering_then o (slice_cmp nat_cmp w w)) g) ∙ h in cc
      | inr upto ↦
          let same : size ≡ more = omega (arith, from, upto) in
          let tie : nat_cmp size more ≡ Equal = ap (nat_cmp size) (sym same) ∙ tied_itself nat_cmp_total size in
          let e : Equal ≡ Less = sym (tied_itself nat_list_cmp_total w) ∙ sym (ap (λ o. ordering_then o (slice_cmp nat_cmp w w)) tie) ∙ h in cc
    ])
  ]

  index_less : (o : Ordering) → nat_lt (ordering_index o) 1 ≡ true → o ≡ Less
  index_less Less h = refl
  index_less Equal h = cc
  index_less Greater h = cc

  module _ (exact : AreExact rows) (at : ℕ) (row : FamilyRow) (within : at < length rows) (is : row ≡ get_or rows at row) where
    row_at : (d : FamilyRow) → get_or rows at d ≡ row
    row_at d = get_or_default rows at d row within ∙ sym is

    -- rows from one on that is no longer than the beginning
    pub none_shorter : length row.subtree ≤ length w → NoneUnder rows w at (length rows)
    none_shorter short k d from inside under =
        let upto = no_more_arcs row (get_or rows k d) (subst (λ r. family_order r (get_or rows k d) ≢ Less) (row_at d) (not_exceeded IsExact family_order family_order-total rows falling at k d from inside)) in
        let l = under.longer in
        omega arith

    -- rows up to the first that isn't before those that are looked for
    pub none_past : (size next : ℕ) → IsPast size w row → next ≤ length rows → IsPartitionPoint (λ r. is_before size w r ≡ true) (λ r. is_before size w r ≡ false) rows next → NoneUnder rows w at next
    none_past size next past upto point k d from before under =
        let r = get_or rows k d in
        let there : Contains rows r = (k, omega (arith, before, upto), get_or_default rows k _ d (omega (arith, before, upto))) in
        let front = front_is r (exact r there) under in
        let less : slice_cmp nat_cmp (size ∷ w) (length r.subtree ∷ w) ≡ Less =
        subst (λ xs. slice_cmp nat_cmp (size ∷ w) (length r.subtree ∷ xs) ≡ Less) front (index_less _ (point.0 k d (omega arith) before)) in
        let over : slice_cmp nat_cmp (front_key w r) (front_key w row) ≡ Greater =
        subst (λ xs. slice_cmp nat_cmp (length r.subtree ∷ xs) (front_key w row) ≡ Greater) (sym front) (past.none (length r.subtree) (less_by size (length r.subtree) less)) in
        let fall : key_order row r ≢ Less = subst (λ x. key_order x r ≢ Less) (row_at d) (not_exceeded IsExact key_order keys_total rows keys_fall at k d from (omega (arith, before, upto))) in
        fall (nat_list_cmp_total.antisymm (front_key w row) (front_key w r) ∙ ap ordering_reverse over)

    -- that row is before them
    pub goes_on : (size next : ℕ) → IsPast size w row → IsPartitionPoint (λ r. is_before size w r ≡ true) (λ r. is_before size w r ≡ false) rows next → at < next
    goes_on size next past point = elim (cases_lt at next) [
      | inl before ↦ before
      | inr from ↦
          let e : is_before size w (get_or rows at row) ≡ false = point.1 at row from within in
          let no : true ≡ false = sym past.before ∙ ap (is_before size w) (sym (row_at row)) ∙ e in cc
    ]

-- two parts together
pub none_then : (rows : List FamilyRow) (w : List ℕ) (place at next : ℕ) → NoneUnder rows w place at → NoneUnder rows w at next → NoneUnder rows w place next
none_then rows w place at next first second k d from before = elim (cases_lt k at) [
  | inl lower ↦ first k d from lower
  | inr past ↦ second k d past before
]

-- the length that comes next
module _ (w : List ℕ) (row : FamilyRow) (size : ℕ) where
  pub past_greater : size ≡ length row.subtree → slice_cmp nat_cmp (take (length w) row.subtree) w ≡ Greater → IsPast size w row
  past_greater is greater = record {
    before =
        let less : slice_cmp nat_cmp w (take (length w) row.subtree) ≡ Less = nat_list_cmp_total.antisymm w (take (length w) row.subtree) ∙ ap ordering_reverse greater in
        let tie : nat_cmp size (length row.subtree) ≡ Equal = ap (λ n. nat_cmp n (length row.subtree)) is ∙ tied_itself nat_cmp_total (length row.subtree) in
        ap (λ o. nat_lt (ordering_index (ordering_then o (slice_cmp nat_cmp w (take (length w) row.subtree)))) 1) tie ∙ ap (λ o. nat_lt (ordering_index o) 1) less;
    none = λ more over.
        let g : nat_cmp more (length row.subtree) ≡ Greater = let e = is in grind (arith, nat_tests) in
        ap (λ o. ordering_then o (slice_cmp nat_cmp w (take (length w) row.subtree))) g;
  }

  pub past_less : size + 1 ≡ length row.subtree → slice_cmp nat_cmp (take (length w) row.subtree) w ≡ Less → IsPast size w row
  past_less is less = record {
    before =
        let l : nat_cmp size (length row.subtree) ≡ Less = let e = is in grind (arith, nat_tests) in
        ap (λ o. nat_lt (ordering_index (ordering_then o (slice_cmp nat_cmp w (take (length w) row.subtree)))) 1) l;
    none = λ more over. elim (cases_lt (length row.subtree) more) [
      | inl longer ↦
          let g : nat_cmp more (length row.subtree) ≡ Greater = grind (arith, nat_tests) in
          ap (λ o. ordering_then o (slice_cmp nat_cmp w (take (length w) row.subtree))) g
      | inr upto ↦
          let same : more ≡ length row.subtree = omega (arith, over, upto, is) in
          let tie : nat_cmp more (length row.subtree) ≡ Equal = ap (λ n. nat_cmp n (length row.subtree)) same ∙ tied_itself nat_cmp_total (length row.subtree) in
          let greater : slice_cmp nat_cmp w (take (length w) row.subtree) ≡ Greater = nat_list_cmp_total.antisymm w (take (length w) row.subtree) ∙ ap ordering_reverse less in
          ap (λ o. ordering_then o (slice_cmp nat_cmp w (take (length w) row.subtree))) tie ∙ greater
    ];
  }
