-- Rows with wildcards, and those of them that agree with the beginning of a name.
use Rattle.std.proofs.Common.{◌≡◌, ◌≢◌, ℕ, ◌<◌, ◌≤◌, ◌==◌, true, false, cond, nat_lt, List, length, get_or, take, sym, ap, subst, ◌∙◌, refl, inl, inr, arith, length-take}
use Rattle.std.specs.List.Sorted.{IsPartitionedBy, IsPartitionPoint}
use Rattle.std.specs.Cmp.{IsTotalOrder}
use Rattle.std.specs.Cmp.Lexicographic.{slice_cmp}
use Rattle.std.specs.Ordering.{nat_cmp, ordering_then, ordering_index, ordering_reverse}
use Rattle.std.specs.declared.cmp.Ordering.{Ordering}
use Rattle.std.specs.declared.cmp.Ordering.TheVariants.{Less, Equal, Greater}
use Rattle.std.proofs.lemmas.Bool.{cases_lt}
use Rattle.std.proofs.lemmas.Bool.Decides.{nat_tests}
use Rattle.std.proofs.lemmas.Grind.{same_number_lists}
use Rattle.std.proofs.lemmas.Cmp.{nat_list_cmp_total, tied_itself}
use Rattle.std.proofs.lemmas.List.{get_or-take, get_or_default}
use Rattle.vacm_core.specs.declared.rows.FamilyRow.{FamilyRow}
use Rattle.vacm_core.specs.Allowed.{mask_bit}
use Rattle.vacm_core.specs.RowOrder.{AreFalling}
use Rattle.vacm_core.specs.View.{IsExact, IsUnder, NoneUnder}
use Rattle.vacm_core.specs.Wildcard.{compared_arcs, shape_order, wildcard_order, is_upto, is_before_alike}
use Rattle.vacm_core.specs.Laws.{shape_order-total, wildcard_order-total}
use Rattle.vacm_core.proofs.First.{not_exceeded}
use Rattle.vacm_core.proofs.Wildcards.{compared_long, compared_at, same_at, like_by}
use Rattle.vacm_core.proofs.Fronts.{fronts_fall}

-- below one that another doesn't come before, and so below that
below : {K : Type 0} (R : K → K → Ordering) → IsTotalOrder R → (x y z : K) → R x y ≡ Less → R z y ≢ Less → R x z ≡ Less
below R laws x y z less upto = by (R x z) refl
  where
    by : (o : Ordering) → R x z ≡ o → o ≡ Less
    by Less e = refl
    by Equal e = absurd (upto (sym (laws.congr x z y e) ∙ less))
    by Greater e = absurd (upto (laws.trans z x y (laws.antisymm z x ∙ ap ordering_reverse e) less))

index_less : (o : Ordering) → nat_lt (ordering_index o) 1 ≡ true → o ≡ Less
index_less Less h = refl
index_less Equal h = cc
index_less Greater h = cc

first_not : (o p : Ordering) → ordering_then o p ≢ Less → o ≢ Less
first_not Less p h e = h refl
first_not Equal p h e = cc
first_not Greater p h e = cc

second_not : (o p : Ordering) → o ≡ Equal → ordering_then o p ≢ Less → p ≢ Less
second_not o p tie h less = h (ap (λ q. ordering_then q p) tie ∙ less)

-- the arcs that are compared, of the first ones
compared_take : (mask arcs : List ℕ) (n : ℕ) → n ≤ length arcs → compared_arcs mask (take n arcs) ≡ take n (compared_arcs mask arcs)
compared_take mask arcs n upto =
    let a = compared_long mask (take n arcs) in
    let b = length-take n arcs in
    let c = compared_long mask arcs in
    let d = length-take n (compared_arcs mask arcs) in
    same_number_lists _ _ (omega arith)
    (λ k within.
    let inside : k < n = omega arith in
    compared_at mask (take n arcs) k (omega arith) ∙ ap (λ x. cond (mask_bit mask k == 1) x 0) (get_or-take n arcs k 0 inside)
    ∙ sym (compared_at mask arcs k (omega arith)) ∙ sym (get_or-take n (compared_arcs mask arcs) k 0 inside))

module _ (rows : List FamilyRow) (falling : AreFalling wildcard_order rows) (w : List ℕ) where
  abbrev front : List ℕ → FamilyRow → List ℕ
  front mask row = compared_arcs mask (take (length w) row.subtree)

  not_less_at : (i j : ℕ) (d : FamilyRow) → i ≤ j → j < length rows → wildcard_order (get_or rows i d) (get_or rows j d) ≢ Less
  not_less_at i j d upto within = not_exceeded IsExact wildcard_order wildcard_order-total rows falling i j d upto within

  -- rows of one length and mask fall by the first arcs that it compares
  fronts_of_alike : (a b : FamilyRow) → wildcard_order a b ≢ Less → shape_order a b ≡ Equal → length w ≤ length a.subtree → slice_cmp nat_cmp (front a.mask a) (front a.mask b) ≢ Less
  fronts_of_alike a b upto same long =
      let like = like_by a b same in
      let whole : slice_cmp nat_cmp (compared_arcs a.mask a.subtree) (compared_arcs a.mask b.subtree) ≢ Less =
      subst (λ (m : List ℕ). slice_cmp nat_cmp (compared_arcs a.mask a.subtree) (compared_arcs m b.subtree) ≢ Less) like.same_mask
      (first_not _ _ (second_not (shape_order a b) _ same upto)) in
      let x = compared_take a.mask a.subtree (length w) long in
      let y = compared_take a.mask b.subtree (length w) (let e = like.same_length in omega arith) in
      subst (λ (xs : List ℕ). slice_cmp nat_cmp xs (front a.mask b) ≢ Less) (sym x)
      (subst (λ (ys : List ℕ). slice_cmp nat_cmp (take (length w) (compared_arcs a.mask a.subtree)) ys ≢ Less) (sym y) (fronts_fall (length w) _ _ whole))

  -- what is before, by its shape or by its first arcs
  module _ (first : FamilyRow) (longer : length w < length first.subtree) where
    abbrev by_front : FamilyRow → Ordering
    by_front row = slice_cmp nat_cmp (compared_arcs first.mask w) (front first.mask row)

    before_shape : (row : FamilyRow) → shape_order first row ≡ Less → is_before_alike first w row ≡ true
    before_shape row less = ap (λ o. nat_lt (ordering_index (ordering_then o (by_front row))) 1) less

    before_front : (row : FamilyRow) → shape_order first row ≡ Equal → by_front row ≡ Less → is_before_alike first w row ≡ true
    before_front row same less = ap (λ o. nat_lt (ordering_index (ordering_then o (by_front row))) 1) same ∙ ap (λ o. nat_lt (ordering_index o) 1) less

    -- b is before, and a doesn't come after b
    before_too : (a b : FamilyRow) → wildcard_order a b ≢ Less → is_before_alike first w b ≡ true → is_before_alike first w a ≡ true
    before_too a b upto is_b = by (shape_order first b) refl (index_less _ is_b)
      where
        upto_shape : shape_order a b ≢ Less
        upto_shape = first_not _ _ upto

        same : shape_order first b ≡ Equal → (o : Ordering) → shape_order first a ≡ o → by_front b ≡ Less → is_before_alike first w a ≡ true
        same tie Less e less = before_shape a e
        same tie Greater e less =
            let f : shape_order b a ≡ Greater = sym (shape_order-total.congr first b a tie) ∙ e in
            absurd (upto_shape (shape_order-total.antisymm a b ∙ ap ordering_reverse f))
        same tie Equal e less =
            let alike : shape_order a b ≡ Equal = sym (shape_order-total.congr first a b e) ∙ tie in
            let like = like_by first a e in
            let fall : slice_cmp nat_cmp (front first.mask a) (front first.mask b) ≢ Less =
            subst (λ (m : List ℕ). slice_cmp nat_cmp (front m a) (front m b) ≢ Less) like.same_mask (fronts_of_alike a b upto alike (let l = like.same_length in omega arith)) in
            before_front a e (below (slice_cmp nat_cmp) nat_list_cmp_total (compared_arcs first.mask w) (front first.mask b) (front first.mask a) less fall)

        by : (o : Ordering) → shape_order first b ≡ o → ordering_then (shape_order first b) (by_front b) ≡ Less → is_before_alike first w a ≡ true
        by Less e h = before_shape a (below shape_order shape_order-total first b a e upto_shape)
        by Equal e h = same e (shape_order first a) refl (sym (ap (λ o. ordering_then o (by_front b)) e) ∙ h)
        by Greater e h = let no : Greater ≡ Less = sym (ap (λ o. ordering_then o (by_front b)) e) ∙ h in cc

    pub parted_alike : IsPartitionedBy (is_before_alike first w) rows
    parted_alike i j d upto within is = before_too (get_or rows i d) (get_or rows j d) (not_less_at i j d upto within) is

  -- a row that agrees with the beginning has it as its first arcs
  agrees_front : (row : FamilyRow) → IsUnder w row → front row.mask row ≡ compared_arcs row.mask w
  agrees_front row under =
      let long = under.longer in
      let a = compared_long row.mask (take (length w) row.subtree) in
      let b = length-take (length w) row.subtree in
      let c = compared_long row.mask w in
      same_number_lists _ _ (omega arith)
      (λ k within.
      let inside : k < length w = omega arith in
      same_at row.mask (take (length w) row.subtree) w k (omega arith) inside
      (λ bit. get_or-take (length w) row.subtree k 0 inside ∙ under.agrees k (omega (arith, inside, long)) inside bit))

  module _ (at : ℕ) (first : FamilyRow) (within : at < length rows) (is : first ≡ get_or rows at first) where
    row_at : (d : FamilyRow) → get_or rows at d ≡ first
    row_at d = get_or_default rows at d first within ∙ sym is

    later_than : (k : ℕ) (d : FamilyRow) → at ≤ k → k < length rows → wildcard_order first (get_or rows k d) ≢ Less
    later_than k d from inside = subst (λ r. wildcard_order r (get_or rows k d) ≢ Less) (row_at d) (not_less_at at k d from inside)

    pub none_shorter_alike : length first.subtree ≤ length w → NoneUnder rows w at (length rows)
    none_shorter_alike short k d from inside under =
        let upto = first_not _ _ (first_not _ _ (later_than k d from inside)) in
        let longer = under.longer in
        upto (let l : nat_cmp (length first.subtree) (length (get_or rows k d).subtree) ≡ Less = grind (arith, nat_tests) in l)

    module _ (longer : length w < length first.subtree) where
      -- its first arcs are greater: rows of its shape up to the first that isn't before
      pub none_greater : (next : ℕ) → next ≤ length rows → IsPartitionPoint (λ r. is_before_alike first w r ≡ true) (λ r. is_before_alike first w r ≡ false) rows next → NoneUnder rows w at next
      none_greater next upto point k d from before under =
          let r = get_or rows k d in
          let fall = later_than k d from (omega (arith, before, upto)) in
          by r fall under (shape_order first r) refl (index_less _ (point.0 k d (omega arith) before))
        where
          by : (r : FamilyRow) → wildcard_order first r ≢ Less → IsUnder w r → (o : Ordering) → shape_order first r ≡ o → ordering_then (shape_order first r) (by_front first longer r) ≡ Less → ⊥
          by r fall under Less e h = first_not _ _ fall e
          by r fall under Greater e h = let no : Greater ≡ Less = sym (ap (λ o. ordering_then o (by_front first longer r)) e) ∙ h in cc
          by r fall under Equal e h =
              let like = like_by first r e in
              let front_is : front first.mask r ≡ compared_arcs first.mask w = subst (λ (m : List ℕ). front m r ≡ compared_arcs m w) like.same_mask (agrees_front r under) in
              let less : by_front first longer r ≡ Less = sym (ap (λ o. ordering_then o (by_front first longer r)) e) ∙ h in
              let no : Equal ≡ Less = sym (tied_itself nat_list_cmp_total (compared_arcs first.mask w)) ∙ ap (slice_cmp nat_cmp (compared_arcs first.mask w)) (sym front_is) ∙ less in cc

      pub greater_on : (next : ℕ) → slice_cmp nat_cmp (front first.mask first) (compared_arcs first.mask w) ≡ Greater
          → IsPartitionPoint (λ r. is_before_alike first w r ≡ true) (λ r. is_before_alike first w r ≡ false) rows next → at < next
      greater_on next greater point = elim (cases_lt at next) [
        | inl before ↦ before
        | inr from ↦
            let e : is_before_alike first w (get_or rows at first) ≡ false = point.1 at first from within in
            let less : by_front first longer first ≡ Less = nat_list_cmp_total.antisymm (compared_arcs first.mask w) (front first.mask first) ∙ ap ordering_reverse greater in
            let no : true ≡ false = sym (before_front first longer first (tied_itself shape_order-total first) less) ∙ ap (is_before_alike first w) (sym (row_at first)) ∙ e in cc
      ]

      -- its first arcs are less: all rows of its shape
      pub none_less : (next : ℕ) → next ≤ length rows → slice_cmp nat_cmp (front first.mask first) (compared_arcs first.mask w) ≡ Less
          → IsPartitionPoint (λ r. is_upto first r ≡ true) (λ r. is_upto first r ≡ false) rows next → NoneUnder rows w at next
      none_less next upto less point k d from before under =
          let r = get_or rows k d in
          let fall = later_than k d from (omega (arith, before, upto)) in
          by r fall under (shape_order first r) refl (point.0 k d (omega arith) before)
        where
          by : (r : FamilyRow) → wildcard_order first r ≢ Less → IsUnder w r → (o : Ordering) → shape_order first r ≡ o → is_upto first r ≡ true → ⊥
          by r fall under Less e h = first_not _ _ fall e
          by r fall under Greater e h = let no : false ≡ true = sym (ap (λ o. nat_lt (ordering_index o) 2) e) ∙ h in cc
          by r fall under Equal e h =
              let like = like_by first r e in
              let front_is : front first.mask r ≡ compared_arcs first.mask w = subst (λ (m : List ℕ). front m r ≡ compared_arcs m w) like.same_mask (agrees_front r under) in
              fronts_of_alike first r fall e (omega arith) (ap (slice_cmp nat_cmp (front first.mask first)) front_is ∙ less)

      pub less_on : (next : ℕ) → IsPartitionPoint (λ r. is_upto first r ≡ true) (λ r. is_upto first r ≡ false) rows next → at < next
      less_on next point = elim (cases_lt at next) [
        | inl before ↦ before
        | inr from ↦
            let e : is_upto first (get_or rows at first) ≡ false = point.1 at first from within in
            let tie : is_upto first first ≡ true = ap (λ o. nat_lt (ordering_index o) 2) (tied_itself shape_order-total first) in
            let no : true ≡ false = sym tie ∙ ap (is_upto first) (sym (row_at first)) ∙ e in cc
      ]
