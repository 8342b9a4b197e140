-- The rows of a name are a run of those that stand by name.
use Rattle.std.proofs.Common.{◌≡◌, ℕ, ◌+◌, ◌-◌, ◌<◌, ◌≤◌, Bool, true, false, nat_lt, List, length, get_or, take, drop, Contains, Option, Some, None, MatchOption, Bor, sym, ap, subst, ◌∙◌, refl, inl, inr, arith, length-take}
use Rattle.std.specs.Cmp.Lexicographic.{slice_cmp}
use Rattle.std.specs.Ordering.{nat_cmp, ordering_then, ordering_index, is_lt}
use Rattle.std.specs.List.Sorted.{IsNonDecreasingBy, IsPartitionedBy, IsPartitionPoint}
use Rattle.std.specs.declared.cmp.Ordering.{Ordering}
use Rattle.std.specs.declared.cmp.Ordering.TheVariants.{Less, Equal, Greater}
use Rattle.std.proofs.lemmas.Bool.{cases_lt}
use Rattle.std.proofs.lemmas.Cmp.{nat_list_cmp_total, tied_itself}
use Rattle.std.proofs.lemmas.List.{length-drop, get_or-take, get_or-drop}
use Rattle.std.proofs.lemmas.List.Sorted.{searchable_from_sorted, IsPartitionedBy-ltb}
use Rattle.std.proofs.lemmas.Map.Lookups.{exact_bytes}
use Rattle.std.specs.Slice.{IsItemAt}
use Rattle.vacm_core.specs.RowOrder.{side_of, AreInPlace, HasRowOf, IsRunOf}

pub first_part : (o p : Ordering) → is_lt (ordering_then o p) ≡ false → is_lt o ≡ false
first_part Less p h = h
first_part Equal p h = refl
first_part Greater p h = refl

pub second_part : (o p : Ordering) → o ≡ Equal → is_lt (ordering_then o p) ≡ false → is_lt p ≡ false
second_part o p e h = subst (λ x. is_lt (ordering_then x p) ≡ false) e h

there_only : (o : Ordering) → nat_lt (ordering_index o) 1 ≡ false → nat_lt (ordering_index o) 2 ≡ true → o ≡ Equal
there_only Less h k = cc
there_only Equal h k = refl
there_only Greater h k = cc

-- ---- of rows of which those that pass come first, so many, and the next does not pass
module _ {R : Type 0} (p : R → Bool) (rows : List R) (few : ℕ) (within : few ≤ length rows) (is_parted : IsPartitionedBy p rows) where
  front_long : length (take few rows) ≡ few
  front_long = rw length-take (omega arith)

  front_at : (k : ℕ) (d : R) → k < few → get_or (take few rows) k d ≡ get_or rows k d
  front_at k d before = get_or-take few rows k d before

  pub parted_front : IsPartitionedBy p (take few rows)
  parted_front i j d upto before passes =
      let l = front_long in
      ap p (front_at i d (omega arith)) ∙ is_parted i j d upto (omega arith) (sym (ap p (front_at j d (omega arith))) ∙ passes)

  pub front_point : ((d : R) → few < length rows → p (get_or rows few d) ≡ false) → (n : ℕ) → n ≤ length (take few rows)
      → IsPartitionPoint (λ y. p y ≡ true) (λ y. p y ≡ false) (take few rows) n → IsPartitionPoint (λ y. p y ≡ true) (λ y. p y ≡ false) rows n
  front_point next n upto point = (
    λ k d long before. elim (cases_lt k few) [
      | inl front ↦ let l = front_long in sym (ap p (front_at k d front)) ∙ point.0 k d (omega arith) before
      | inr past ↦ absurd (let l = front_long in omega arith)
    ],
    λ k d from long. elim (cases_lt k few) [
      | inl front ↦ let l = front_long in sym (ap p (front_at k d front)) ∙ point.1 k d from (omega arith)
      | inr past ↦ fails k d (p (get_or rows k d)) refl past long
    ],
  )
    where
      fails : (k : ℕ) (d : R) (b : Bool) → p (get_or rows k d) ≡ b → few ≤ k → k < length rows → p (get_or rows k d) ≡ false
      fails k d false e past long = e
      fails k d true e past long = let h : true ≡ false = sym (is_parted few k d past long e) ∙ next d (omega arith) in cc

module _ {R : Type 0} (name : R → List ℕ) (rank : R → R → Ordering) (wanted : List ℕ) where
  pub at_name : (row : R) → name row ≡ wanted → side_of name wanted row ≡ 1
  at_name row h = ap (λ x. ordering_index (slice_cmp nat_cmp x wanted)) h ∙ ap ordering_index (tied_itself nat_list_cmp_total wanted)

  pub sides_rise : (rows : List R) → AreInPlace name rank rows → IsNonDecreasingBy (side_of name wanted) rows
  sides_rise rows stands =
      searchable_from_sorted nat_list_cmp_total name rows wanted (λ k d low high. first_part _ _ (stands k d low high))

  pub parted : (t : ℕ) (rows : List R) → AreInPlace name rank rows → IsPartitionedBy (λ row. nat_lt (side_of name wanted row) t) rows
  parted t rows stands = IsPartitionedBy-ltb (side_of name wanted) rows t (sides_rise rows stands)

  -- what stands from a place on
  pub parted_rest : (t low : ℕ) (rows : List R) → AreInPlace name rank rows → IsPartitionedBy (λ row. nat_lt (side_of name wanted row) t) (drop low rows)
  parted_rest t low rows stands i j d upto within passes =
      let is_i = get_or-drop low rows i d in
      let is_j = get_or-drop low rows j d in
      let long : length (drop low rows) ≡ length rows - low = length-drop low rows in
      ap (λ x. nat_lt (side_of name wanted x) t) is_i
      ∙ parted t rows stands (low + i) (low + j) d (omega arith) (omega arith) (sym (ap (λ x. nat_lt (side_of name wanted x) t) is_j) ∙ passes)

  module _ (rows : List R) (low high : ℕ)
      (long : high ≤ length (drop low rows))
      (first : IsPartitionPoint (λ row. nat_lt (side_of name wanted row) 1 ≡ true) (λ row. nat_lt (side_of name wanted row) 1 ≡ false) rows low)
      (second : IsPartitionPoint (λ row. nat_lt (side_of name wanted row) 2 ≡ true) (λ row. nat_lt (side_of name wanted row) 2 ≡ false) (drop low rows) high) where
    abbrev pub run : List R
    run = take high (drop low rows)

    run_long : length run ≡ high
    run_long = rw length-take (omega arith)

    run_at : (k : ℕ) (d : R) → k < high → get_or run k d ≡ get_or rows (low + k) d
    run_at k d within = get_or-take high (drop low rows) k d within ∙ get_or-drop low rows k d

    rest_long : length (drop low rows) ≡ length rows - low
    rest_long = length-drop low rows

    name_at : (k : ℕ) (d : R) → k < high → name (get_or run k d) ≡ wanted
    name_at k d within =
        let is = run_at k d within in
        let from = first.1 (low + k) d (omega arith) (let l = rest_long in omega arith) in
        let upto = second.0 k d (omega arith) within in
        let there = get_or-drop low rows k d in
        let upto' : nat_lt (side_of name wanted (get_or rows (low + k) d)) 2 ≡ true = sym (ap (λ x. nat_lt (side_of name wanted x) 2) there) ∙ upto in
        ap name is ∙ exact_bytes _ _ (there_only _ from upto')

    pub is_run : AreInPlace name rank rows → IsRunOf name rank wanted rows (take high (drop low rows))
    is_run stands = record {
      named = λ row c. let within : c.0 < high = let l = run_long in omega (arith, c.1) in sym (ap name c.2) ∙ name_at c.0 row within;
      among = λ row c.
          let within : c.0 < high = let l = run_long in omega (arith, c.1) in
          let l = rest_long in
          (low + c.0, omega (arith, c.1), sym (run_at c.0 row within) ∙ c.2);
      whole = λ row c named.
          let side : side_of name wanted row ≡ 1 = at_name row named in
          let l = rest_long in
          elim (cases_lt c.0 low) [
            | inl before ↦
                let t = first.0 c.0 row (omega arith) before in
                let u : nat_lt (side_of name wanted row) 1 ≡ true = sym (ap (λ x. nat_lt (side_of name wanted x) 1) c.2) ∙ t in
                let v : nat_lt 1 1 ≡ true = sym (ap (λ n. nat_lt n 1) side) ∙ u in cc
            | inr from ↦ elim (cases_lt (c.0 - low) high) [
              | inl within ↦
                  let e : low + (c.0 - low) ≡ c.0 = omega arith in
                  (let m = run_long in (c.0 - low, omega (arith, within), run_at (c.0 - low) row within ∙ ap (λ k. get_or rows k row) e ∙ c.2))
              | inr past ↦
                  let e : low + (c.0 - low) ≡ c.0 = omega arith in
                  let t = second.1 (c.0 - low) row past (omega (arith, c.1)) in
                  let is : get_or (drop low rows) (c.0 - low) row ≡ row = get_or-drop low rows (c.0 - low) row ∙ ap (λ k. get_or rows k row) e ∙ c.2 in
                  let u : nat_lt (side_of name wanted row) 2 ≡ false = sym (ap (λ x. nat_lt (side_of name wanted x) 2) is) ∙ t in
                  let v : nat_lt 1 2 ≡ false = sym (ap (λ n. nat_lt n 2) side) ∙ u in cc
            ]
          ];
      falling = λ k d _ within.
          let m = run_long in
          let next : k + 1 < high = omega (arith, within) in
          let l = rest_long in
          let a = run_at k d (omega arith) in
          let b = run_at (k + 1) d next in
          let same : low + (k + 1) ≡ low + k + 1 = omega arith in
          let b' : get_or (take high (drop low rows)) (k + 1) d ≡ get_or rows (low + k + 1) d = b ∙ ap (λ n. get_or rows n d) same in
          let h = stands (low + k) d (omega arith) (omega arith) in
          let name_a : name (get_or rows (low + k) d) ≡ wanted = sym (ap name a) ∙ name_at k d (omega arith) in
          let name_b : name (get_or rows (low + k + 1) d) ≡ wanted = sym (ap name b') ∙ name_at (k + 1) d next in
          let tied : slice_cmp nat_cmp (name (get_or rows (low + k + 1) d)) (name (get_or rows (low + k) d)) ≡ Equal =
          ap (λ x. slice_cmp nat_cmp x (name (get_or rows (low + k) d))) (name_b ∙ sym name_a) ∙ tied_itself nat_list_cmp_total (name (get_or rows (low + k) d)) in
          ap (λ x. is_lt (rank x (get_or run (k + 1) d))) a ∙ ap (λ y. is_lt (rank (get_or rows (low + k) d) y)) b' ∙ second_part _ _ tied h;
    }

  -- the same of a slice from the place on, as the code has it
  module _ (rows : List R) (low : ℕ) (stands : AreInPlace name rank rows) (rest : List R) (is : rest ≡ drop low rows) where
    pub parted_slice : (t : ℕ) → IsPartitionedBy (λ row. nat_lt (side_of name wanted row) t) rest
    parted_slice t = subst (λ xs. IsPartitionedBy (λ row. nat_lt (side_of name wanted row) t) xs) (sym is) (parted_rest t low rows stands)

    pub is_run_of : (high : ℕ) → high ≤ length rest
        → IsPartitionPoint (λ row. nat_lt (side_of name wanted row) 1 ≡ true) (λ row. nat_lt (side_of name wanted row) 1 ≡ false) rows low
        → IsPartitionPoint (λ row. nat_lt (side_of name wanted row) 2 ≡ true) (λ row. nat_lt (side_of name wanted row) 2 ≡ false) rest high
        → IsRunOf name rank wanted rows (take high rest)
    is_run_of high long first second =
        subst (λ xs. IsRunOf name rank wanted rows (take high xs)) (sym is)
        (is_run rows low high (subst (λ xs. high ≤ length xs) is long) first (subst (λ xs. IsPartitionPoint (λ row. nat_lt (side_of name wanted row) 2 ≡ true) (λ row. nat_lt (side_of name wanted row) 2 ≡ false) xs high) is second) stands)

  -- the first row of a run, where the name has one
  pub first_row : (rows run : List R) (first : Option (Bor R)) → IsRunOf name rank wanted rows run → IsItemAt run 0 first
      → MatchOption first (¬ HasRowOf name wanted rows) (λ row. Contains rows row.now × (name row.now ≡ wanted))
  first_row rows run None is_run item = λ h.
      let c = is_run.whole h.0 h.1 h.2 in
      absurd (let past = item.3 in let within = c.1 in omega arith)
  first_row rows run (Some row) is_run item =
      let there : Contains run row.now = (0, item.3.0, sym (item.3.1 row.now)) in
      (is_run.among row.now there, is_run.named row.now there)
