-- Rows of one length and one mask, and the arcs that the mask compares.
use Rattle.std.proofs.Common.{◌≡◌, ◌≢◌, ℕ, zero, suc, ◌+◌, ◌<◌, ◌≤◌, ◌==◌, Bool, true, false, cond, nat_lt, List, [], ◌∷◌, ◌++◌, length, get_or, take, drop, Contains, Bor, Option, Some, MatchBool, sym, ap, subst, ◌∙◌, refl, inl, inr, arith, length-take}
use Rattle.std.specs.List.Sorted.{IsNonDecreasingBy, IsPartitionedBy, IsPartitionPoint}
use Rattle.std.specs.Cmp.Lexicographic.{slice_cmp}
use Rattle.std.specs.Ordering.{nat_cmp, ordering_then, ordering_index, is_lt}
use Rattle.std.specs.declared.cmp.Ordering.{Ordering}
use Rattle.std.specs.declared.cmp.Ordering.TheVariants.{Less, Equal, Greater}
use Rattle.std.proofs.lemmas.Bool.{cases_lt}
use Rattle.std.proofs.lemmas.Bool.Decides.{Decides-eqb, nat_tests}
use Rattle.std.proofs.lemmas.Grind.{same_number_lists}
use Rattle.std.proofs.lemmas.Cmp.{nat_cmp_total, nat_list_cmp_total, back_total, tied_itself}
use Rattle.std.proofs.lemmas.List.{length-drop, get_or-take, get_or-drop, get_or_default}
use Rattle.std.proofs.lemmas.List.FromFn.{length-map-range_with_len, get_or-map-range_with_len}
use Rattle.std.proofs.lemmas.List.Sorted.{searchable_from_sorted, IsPartitionedBy-ltb}
use Rattle.std.proofs.lemmas.Map.Lookups.{exact_unsigned, exact_bytes}
use Rattle.std.proofs.lemmas.Option.{MatchOption-at_some}
use Rattle.vacm_core.specs.declared.rows.FamilyRow.{FamilyRow}
use Rattle.vacm_core.specs.Allowed.{IsBestOf, NoneFits, family_order, mask_bit}
use Rattle.vacm_core.specs.RowOrder.{AreFalling}
use Rattle.vacm_core.specs.View.{HasArcs}
use Rattle.vacm_core.specs.Wildcard.{compared_arcs, shape_order, wildcard_order, is_upto, comes_first, IsLike, AreAlike, IsDecider}
use Rattle.vacm_core.specs.Laws.{family_order-total, shape_order-total, wildcard_order-total}
use Rattle.vacm_core.proofs.First.{best_of_left, not_exceeded, then_equal}
use Rattle.vacm_core.proofs.Exact.{longer}
use Rattle.vacm_core.proofs.Runs.{first_part, second_part}

-- ---- lists of numbers that begin alike

tied : (x y : ℕ) (o : Ordering) → x ≡ y → ordering_then (nat_cmp x y) o ≡ o
tied x y o same = ap (λ p. ordering_then p o) (ap (nat_cmp x) (sym same) ∙ tied_itself nat_cmp_total x)

-- the first place where two lists differ decides between them
decided_at : (xs ys : List ℕ) (k : ℕ) → k < length xs → k < length ys → ((j : ℕ) → j < k → get_or xs j 0 ≡ get_or ys j 0)
    → get_or xs k 0 ≢ get_or ys k 0 → slice_cmp nat_cmp xs ys ≡ nat_cmp (get_or xs k 0) (get_or ys k 0)
decided_at [] ys k a b same differ = absurd (omega (arith, a))
decided_at (x ∷ xs) [] k a b same differ = absurd (omega (arith, b))
decided_at (x ∷ xs) (y ∷ ys) zero a b same differ = by (nat_cmp x y) (λ e. differ (exact_unsigned x y e))
  where
    by : (o : Ordering) → o ≢ Equal → ordering_then o (slice_cmp nat_cmp xs ys) ≡ o
    by Less h = refl
    by Equal h = absurd (h refl)
    by Greater h = refl
decided_at (x ∷ xs) (y ∷ ys) (suc k) a b same differ =
    tied x y _ (same 0 (omega arith)) ∙ decided_at xs ys k (omega (arith, a)) (omega (arith, b)) (λ j before. same (suc j) (omega (arith, before))) differ

-- of two lists with no such place, the shorter is less
all_alike : (xs ys : List ℕ) → ((j : ℕ) → j < length xs → j < length ys → get_or xs j 0 ≡ get_or ys j 0) → slice_cmp nat_cmp xs ys ≡ nat_cmp (length xs) (length ys)
all_alike [] [] same = refl
all_alike [] (y ∷ ys) same = grind (arith, nat_tests)
all_alike (x ∷ xs) [] same = grind (arith, nat_tests)
all_alike (x ∷ xs) (y ∷ ys) same =
    let more : nat_cmp (length (x ∷ xs)) (length (y ∷ ys)) ≡ nat_cmp (length xs) (length ys) = grind (arith, nat_tests) in
    tied x y _ (same 0 (omega arith) (omega arith)) ∙ all_alike xs ys (λ j a b. same (suc j) (omega (arith, a)) (omega (arith, b))) ∙ sym more

-- ---- the arcs that a mask compares

module _ (mask : List ℕ) where
  pub compared_long : (arcs : List ℕ) → length (compared_arcs mask arcs) ≡ length arcs
  compared_long arcs = length-map-range_with_len _ 0 (length arcs)

  pub compared_at : (arcs : List ℕ) (k : ℕ) → k < length arcs → get_or (compared_arcs mask arcs) k 0 ≡ cond (mask_bit mask k == 1) (get_or arcs k 0) 0
  compared_at arcs k within = get_or-map-range_with_len _ 0 (length arcs) k k 0 within (omega arith)

  arc_at : (arcs : List ℕ) (k : ℕ) → k < length arcs → mask_bit mask k ≡ 1 → get_or (compared_arcs mask arcs) k 0 ≡ get_or arcs k 0
  arc_at arcs k within bit = compared_at arcs k within ∙ ap (λ b. cond b (get_or arcs k 0) 0) ((Decides-eqb (mask_bit mask k) 1).1 bit)

  pub same_at : (xs ys : List ℕ) (k : ℕ) → k < length xs → k < length ys → (mask_bit mask k ≡ 1 → get_or xs k 0 ≡ get_or ys k 0)
      → get_or (compared_arcs mask xs) k 0 ≡ get_or (compared_arcs mask ys) k 0
  same_at xs ys k a b same = compared_at xs k a ∙ by (mask_bit mask k == 1) (λ e. same ((Decides-eqb (mask_bit mask k) 1).0 e)) ∙ sym (compared_at ys k b)
    where
      by : (bit : Bool) → (bit ≡ true → get_or xs k 0 ≡ get_or ys k 0) → cond bit (get_or xs k 0) 0 ≡ cond bit (get_or ys k 0) 0
      by true h = h refl
      by false h = refl

  -- before this place the arcs that are compared are equal
  abbrev pub AreSameTo : List ℕ → List ℕ → ℕ → Type 0
  AreSameTo xs ys place = (k : ℕ) → k < place → mask_bit mask k ≡ 1 → get_or xs k 0 ≡ get_or ys k 0

  pub order_at : (xs ys : List ℕ) (k : ℕ) → k < length xs → k < length ys → AreSameTo xs ys k → mask_bit mask k ≡ 1 → get_or xs k 0 ≢ get_or ys k 0
      → slice_cmp nat_cmp (compared_arcs mask xs) (compared_arcs mask ys) ≡ nat_cmp (get_or xs k 0) (get_or ys k 0)
  order_at xs ys k a b same bit differ =
      let x = arc_at xs k a bit in
      let y = arc_at ys k b bit in
      decided_at (compared_arcs mask xs) (compared_arcs mask ys) k (rw compared_long a) (rw compared_long b)
      (λ j before. same_at xs ys j (omega (arith, before)) (omega (arith, before)) (same j before)) (λ e. differ (sym x ∙ e ∙ y))
      ∙ ap (λ n. nat_cmp n (get_or (compared_arcs mask ys) k 0)) x ∙ ap (nat_cmp (get_or xs k 0)) y

  pub order_of_lengths : (xs ys : List ℕ) (k : ℕ) → ((j : ℕ) → j < length xs → j < length ys → j < k) → AreSameTo xs ys k
      → slice_cmp nat_cmp (compared_arcs mask xs) (compared_arcs mask ys) ≡ nat_cmp (length xs) (length ys)
  order_of_lengths xs ys k upto same =
      all_alike (compared_arcs mask xs) (compared_arcs mask ys)
      (λ j a b. let a' = rw compared_long at a in let b' = rw compared_long at b in same_at xs ys j a' b' (same j (upto j a' b')))
      ∙ ap (λ n. nat_cmp n (length (compared_arcs mask ys))) (compared_long xs) ∙ ap (nat_cmp (length xs)) (compared_long ys)

  module _ (row : FamilyRow) (same_mask : row.mask ≡ mask) (variable : List ℕ) (n : ℕ) (long : length row.subtree ≡ n) (upto : n ≤ length variable) where
    begun : length (take n variable) ≡ n
    begun = rw length-take (omega arith)

    -- a row has the variable where the compared arcs are those of its beginning
    pub fits_same : HasArcs variable row → compared_arcs mask row.subtree ≡ compared_arcs mask (take n variable)
    fits_same fits =
        same_number_lists _ _ (compared_long row.subtree ∙ long ∙ sym begun ∙ sym (compared_long (take n variable)))
        (λ k within.
        let a = rw compared_long at within in
        let b : k < n = omega (arith, a) in
        same_at row.subtree (take n variable) k a (omega (arith, b, begun))
        (λ bit. fits.arcs k a (subst (λ (m : List ℕ). mask_bit m k ≡ 1) (sym same_mask) bit) ∙ sym (get_or-take n variable k 0 b)))

    pub same_fits : compared_arcs mask row.subtree ≡ compared_arcs mask (take n variable) → HasArcs variable row
    same_fits same = record {
      long = omega arith;
      arcs = λ k within bit.
          let b : k < n = omega (arith, within) in
          let bit' = subst (λ (m : List ℕ). mask_bit m k ≡ 1) same_mask bit in
          sym (arc_at row.subtree k within bit') ∙ ap (λ xs. get_or xs k 0) same
          ∙ arc_at (take n variable) k (omega (arith, b, begun)) bit' ∙ get_or-take n variable k 0 b;
    }

-- ---- rows that fall

module _ {R : Type 0} (rank : R → R → Ordering) (rows : List R) (falling : AreFalling rank rows) (n : ℕ) where
  pub falling_front : AreFalling rank (take n rows)
  falling_front k d from within =
      let l = length-take n rows in
      let a = get_or-take n rows k d (omega arith) in
      let b = get_or-take n rows (k + 1) d (omega arith) in
      ap (λ x. is_lt (rank x (get_or (take n rows) (k + 1) d))) a ∙ ap (λ y. is_lt (rank (get_or rows k d) y)) b ∙ falling k d from (omega arith)

  pub falling_rest : AreFalling rank (drop n rows)
  falling_rest k d from within =
      let l = length-drop n rows in
      let a = get_or-drop n rows k d in
      let same : n + (k + 1) ≡ n + k + 1 = omega arith in
      let b : get_or (drop n rows) (k + 1) d ≡ get_or rows (n + k + 1) d = get_or-drop n rows (k + 1) d ∙ ap (λ i. get_or rows i d) same in
      ap (λ x. is_lt (rank x (get_or (drop n rows) (k + 1) d))) a ∙ ap (λ y. is_lt (rank (get_or rows (n + k) d) y)) b ∙ falling (n + k) d (omega arith) (omega arith)

-- ---- rows of one length and one mask

pub like_by : (first row : FamilyRow) → shape_order first row ≡ Equal → IsLike first row
like_by first row h =
    let parts = then_equal _ _ h in
    record { same_length = sym (exact_unsigned _ _ parts.0); same_mask = sym (exact_bytes _ _ parts.1) }

by_like : (first row : FamilyRow) → IsLike first row → shape_order first row ≡ Equal
by_like first row like =
    let a : nat_cmp (length first.subtree) (length row.subtree) ≡ Equal = ap (nat_cmp (length first.subtree)) like.same_length ∙ tied_itself nat_cmp_total (length first.subtree) in
    let b : slice_cmp nat_cmp first.mask row.mask ≡ Equal = ap (slice_cmp nat_cmp first.mask) like.same_mask ∙ tied_itself nat_list_cmp_total first.mask in
    ap (λ o. ordering_then o (slice_cmp nat_cmp first.mask row.mask)) a ∙ b

-- rows of one length and one mask stand by the arcs that it compares, and then by all arcs
pub ranked_by : (a b : FamilyRow) → shape_order a b ≡ Equal
    → wildcard_order a b ≡ ordering_then (slice_cmp nat_cmp (compared_arcs a.mask a.subtree) (compared_arcs a.mask b.subtree)) (slice_cmp nat_cmp a.subtree b.subtree)
ranked_by a b same =
    ap (λ o. ordering_then o (ordering_then (slice_cmp nat_cmp (compared_arcs a.mask a.subtree) (compared_arcs b.mask b.subtree)) (slice_cmp nat_cmp a.subtree b.subtree))) same
    ∙ ap (λ m. ordering_then (slice_cmp nat_cmp (compared_arcs a.mask a.subtree) (compared_arcs m b.subtree)) (slice_cmp nat_cmp a.subtree b.subtree)) (like_by a b same).same_mask

same_only : (o : Ordering) → ordering_index o ≡ 1 → o ≡ Equal
same_only Less h = cc
same_only Equal h = refl
same_only Greater h = cc

module _ (rows : List FamilyRow) (first : FamilyRow) (falling : AreFalling wildcard_order rows) where
  shapes_rise : IsNonDecreasingBy (λ y. ordering_index (shape_order first y)) rows
  shapes_rise = searchable_from_sorted (back_total shape_order-total) (λ (row : FamilyRow). row) rows first (λ k d from within. first_part _ _ (falling k d from within))

  pub parted : IsPartitionedBy (is_upto first) rows
  parted = IsPartitionedBy-ltb (λ y. ordering_index (shape_order first y)) rows 2 shapes_rise

  module _ (some : 0 < length rows) (is : first ≡ get_or rows 0 first) (n : ℕ) (bound : n ≤ length rows)
      (point : IsPartitionPoint (λ y. is_upto first y ≡ true) (λ y. is_upto first y ≡ false) rows n) where
    at_first : (d : FamilyRow) → ordering_index (shape_order first (get_or rows 0 d)) ≡ 1
    at_first d =
        ap (λ x. ordering_index (shape_order first x)) (get_or_default rows 0 d first some ∙ sym is) ∙ ap ordering_index (tied_itself shape_order-total first)

    pub some_alike : 0 < n
    some_alike = elim (cases_lt 0 n) [
      | inl more ↦ more
      | inr none ↦
          let e : is_upto first (get_or rows 0 first) ≡ false = point.1 0 first (omega arith) some in
          let f : nat_lt 1 2 ≡ false = sym (ap (λ i. nat_lt i 2) (at_first first)) ∙ e in cc
    ]

    like_at : (k : ℕ) (d : FamilyRow) → k < n → IsLike first (get_or rows k d)
    like_at k d before =
        let low = shapes_rise 0 k d (omega arith) (omega arith) in
        let one = at_first d in
        let high = point.0 k d (omega arith) before in
        let below : ordering_index (shape_order first (get_or rows k d)) < 2 = grind (arith, nat_tests) in
        like_by first (get_or rows k d) (same_only _ (omega (arith, low, one, below)))

    like_in : (row : FamilyRow) → Contains (take n rows) row → IsLike first row
    like_in row c =
        let l = length-take n rows in
        let before : c.0 < n = omega (arith, c.1) in
        subst (IsLike first) (sym (get_or-take n rows c.0 row before) ∙ c.2) (like_at c.0 row before)

    pub are_alike : AreAlike (take n rows)
    are_alike x y at_x at_y =
        let a = like_in x at_x in
        let b = like_in y at_y in
        record { same_length = b.same_length ∙ sym a.same_length; same_mask = b.same_mask ∙ sym a.same_mask }

-- ---- the one that decides among them

module _ (rows : List FamilyRow) (falling : AreFalling wildcard_order rows) (alike : AreAlike rows) (variable : List ℕ) (first : FamilyRow) (there : Contains rows first) where
  -- a variable that is shorter than the rows
  pub none_so_short : length variable < length first.subtree → NoneFits rows (HasArcs variable)
  none_so_short short row c fits =
      let l = fits.long in
      let e = (alike first row there c).same_length in
      omega arith

  module _ (n : ℕ) (long : length first.subtree ≡ n) (upto : n ≤ length variable) where
    abbrev target : List ℕ
    target = compared_arcs first.mask (take n variable)

    abbrev key : FamilyRow → List ℕ
    key row = compared_arcs first.mask row.subtree

    like : (row : FamilyRow) → Contains rows row → IsLike first row
    like row c = alike first row there c

    at : (k : ℕ) (d : FamilyRow) → k < length rows → Contains rows (get_or rows k d)
    at k d within = (k, within, get_or_default rows k _ d within)

    keys_fall : (k : ℕ) (d : FamilyRow) → k + 1 < length rows → is_lt (slice_cmp nat_cmp (key (get_or rows k d)) (key (get_or rows (k + 1) d))) ≡ false
    keys_fall k d within =
        let a = get_or rows k d in
        let b = get_or rows (k + 1) d in
        let in_a = at k d (omega arith) in
        let in_b = at (k + 1) d within in
        let like_a = like a in_a in
        let like_b = like b in_b in
        let h = second_part _ _ (by_like a b (alike a b in_a in_b)) (falling k d (omega arith) within) in
        let low = first_part _ _ h in
        ap (λ m. is_lt (slice_cmp nat_cmp (compared_arcs m a.subtree) (key b))) (sym like_a.same_mask)
        ∙ ap (λ m. is_lt (slice_cmp nat_cmp (compared_arcs a.mask a.subtree) (compared_arcs m b.subtree))) (sym like_b.same_mask) ∙ low

    abbrev place_of : FamilyRow → ℕ
    place_of row = ordering_index (slice_cmp nat_cmp target (key row))

    keys_rise : IsNonDecreasingBy place_of rows
    keys_rise = searchable_from_sorted (back_total nat_list_cmp_total) key rows target (λ k d from within. keys_fall k d within)

    pub parted_keys : IsPartitionedBy (comes_first first.mask (take n variable)) rows
    parted_keys = IsPartitionedBy-ltb place_of rows 1 keys_rise

    -- a row has the variable where it stands at its arcs
    fits_there : (row : FamilyRow) → Contains rows row → HasArcs variable row → place_of row ≡ 1
    fits_there row c fits =
        let l = like row c in
        let same = fits_same first.mask row l.same_mask variable n (l.same_length ∙ long) upto fits in
        ap (λ xs. ordering_index (slice_cmp nat_cmp target xs)) same ∙ ap ordering_index (tied_itself nat_list_cmp_total target)

    there_fits : (row : FamilyRow) → Contains rows row → place_of row ≡ 1 → HasArcs variable row
    there_fits row c is =
        let l = like row c in
        same_fits first.mask row l.same_mask variable n (l.same_length ∙ long) upto (sym (exact_bytes _ _ (same_only _ is)))

    module _ (place : ℕ) (point : IsPartitionPoint (λ y. comes_first first.mask (take n variable) y ≡ true) (λ y. comes_first first.mask (take n variable) y ≡ false) rows place) where
      not_before : (row : FamilyRow) (c : Contains rows row) → HasArcs variable row → place ≤ c.0
      not_before row c fits = elim (cases_lt c.0 place) [
        | inl before ↦
            let e : comes_first first.mask (take n variable) (get_or rows c.0 row) ≡ true = point.0 c.0 row (omega arith) before in
            let f : nat_lt 1 1 ≡ true = sym (ap (λ i. nat_lt i 1) (ap place_of c.2 ∙ fits_there row c fits)) ∙ e in cc
        | inr from ↦ from
      ]

      pub none_left : length rows ≤ place → NoneFits rows (HasArcs variable)
      none_left past row c fits = let from = not_before row c fits in let within = c.1 in absurd (omega arith)

      module _ (row : FamilyRow) (within : place < length rows) (is : row ≡ get_or rows place row) where
        in_place : Contains rows row
        in_place = (place, within, sym is)

        pub none_has : ¬ HasArcs variable row → NoneFits rows (HasArcs variable)
        none_has fails other c fits =
            let from = not_before other c fits in
            let high = keys_rise place c.0 other from c.1 in
            let one : place_of (get_or rows c.0 other) ≡ 1 = ap place_of c.2 ∙ fits_there other c fits in
            let same : place_of (get_or rows place other) ≡ place_of row = ap place_of (get_or_default rows place other row within ∙ sym is) in
            let low : comes_first first.mask (take n variable) (get_or rows place row) ≡ false = point.1 place row (omega arith) within in
            let low' : nat_lt (place_of row) 1 ≡ false = ap (comes_first first.mask (take n variable)) is ∙ low in
            let some : 1 ≤ place_of row = grind (arith, nat_tests) in
            fails (there_fits row in_place (omega arith))

        by_shape : (other : FamilyRow) → Contains rows other → nat_cmp (length row.subtree) (length other.subtree) ≡ Equal
        by_shape other c = ap (nat_cmp (length row.subtree)) (alike row other in_place c).same_length ∙ tied_itself nat_cmp_total (length row.subtree)

        pub first_has : HasArcs variable row → IsBestOf rows (HasArcs variable) family_order row
        first_has has = record {
          in_table = in_place;
          fits = has;
          unexceeded = λ other c fits less.
              let from = not_before other c fits in
              let h = not_exceeded (HasArcs variable) wildcard_order wildcard_order-total rows falling place c.0 other from c.1 in
              let same : get_or rows place other ≡ row = get_or_default rows place other row within ∙ sym is in
              let l = like other c in
              let m = like row in_place in
              let keys : compared_arcs row.mask row.subtree ≡ compared_arcs other.mask other.subtree =
              ap (λ x. compared_arcs x row.subtree) m.same_mask ∙ fits_same first.mask row m.same_mask variable n (m.same_length ∙ long) upto has
              ∙ sym (fits_same first.mask other l.same_mask variable n (l.same_length ∙ long) upto fits) ∙ ap (λ x. compared_arcs x other.subtree) (sym l.same_mask) in
              let tied_keys : slice_cmp nat_cmp (compared_arcs row.mask row.subtree) (compared_arcs other.mask other.subtree) ≡ Equal =
              ap (slice_cmp nat_cmp (compared_arcs row.mask row.subtree)) (sym keys) ∙ tied_itself nat_list_cmp_total (compared_arcs row.mask row.subtree) in
              let arcs : slice_cmp nat_cmp row.subtree other.subtree ≡ Less =
              sym (ap (λ o. ordering_then o (slice_cmp nat_cmp row.subtree other.subtree)) (by_shape other c)) ∙ less in
              let down : wildcard_order row other ≡ Less =
              ap (λ o. ordering_then o (ordering_then (slice_cmp nat_cmp (compared_arcs row.mask row.subtree) (compared_arcs other.mask other.subtree)) (slice_cmp nat_cmp row.subtree other.subtree))) (by_like row other (alike row other in_place c))
              ∙ ap (λ o. ordering_then o (slice_cmp nat_cmp row.subtree other.subtree)) tied_keys ∙ arcs in
              h (ap (λ x. wildcard_order x (get_or rows c.0 other)) same ∙ ap (wildcard_order row) c.2 ∙ down);
        }

-- ---- rows that are shorter

-- of falling rows, none is longer than the first
pub no_longer : (rows : List FamilyRow) (first row : FamilyRow) → AreFalling wildcard_order rows → first ≡ get_or rows 0 first → Contains rows row
    → length row.subtree ≤ length first.subtree
no_longer rows first row falling is c = elim (cases_lt (length first.subtree) (length row.subtree)) [
  | inl more ↦
      let h = not_exceeded (HasArcs []) wildcard_order wildcard_order-total rows falling 0 c.0 row (omega arith) c.1 in
      let same : get_or rows 0 row ≡ first = get_or_default rows 0 row first (omega (arith, c.1)) ∙ sym is in
      let e : nat_cmp (length first.subtree) (length row.subtree) ≡ Less = grind (arith, nat_tests) in
      let down : wildcard_order first row ≡ Less = ap (λ o. ordering_then (ordering_then o (slice_cmp nat_cmp first.mask row.mask)) (ordering_then (slice_cmp nat_cmp (compared_arcs first.mask first.subtree) (compared_arcs row.mask row.subtree)) (slice_cmp nat_cmp first.subtree row.subtree))) e in
      absurd (h (ap (λ x. wildcard_order x (get_or rows c.0 row)) same ∙ ap (wildcard_order first) c.2 ∙ down))
  | inr upto ↦ upto
]

-- a row that is longer than each of the rest still decides with them
pub decided : (rest : List FamilyRow) (found : Option (Bor FamilyRow)) (row : Bor FamilyRow) (next : FamilyRow) → AreFalling wildcard_order rest → found ≡ Some row
    → 0 < length rest → next ≡ get_or rest 0 next → (m n : ℕ) → m ≡ length next.subtree → n ≡ length row.now.subtree
    → MatchBool (nat_lt m n) ((variable : List ℕ) (rows : List FamilyRow) → IsDecider variable rows found → IsDecider variable (rows ++ rest) found) (0 < length rest)
decided rest found row next falling is some at m n is_m is_n = by (nat_lt m n) refl
  where
    by : (b : Bool) → nat_lt m n ≡ b → MatchBool b ((variable : List ℕ) (rows : List FamilyRow) → IsDecider variable rows found → IsDecider variable (rows ++ rest) found) (0 < length rest)
    by false e = some
    by true e = λ variable rows decides.
        let shorter : m < n = grind (arith, nat_tests) in
        let best : IsBestOf rows (HasArcs variable) family_order row.now = MatchOption-at_some _ _ row is decides in
        subst (IsDecider variable (rows ++ rest)) (sym is)
        (best_of_left (HasArcs variable) family_order family_order-total rows rest row.now best
        (λ other c fits. let l = no_longer rest next other falling at c in longer row.now other (inl (omega arith))))
