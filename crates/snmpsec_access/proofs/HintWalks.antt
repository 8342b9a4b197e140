-- Walks over rows with their positions, and what is reported of each.
use Rattle.std.proofs.Common.{◌≡◌, ℕ, ◌+◌, ◌<◌, ◌≤◌, List, [], ◌∷◌, ◌++◌, length, get_or, take, take_all, sym, ap, ◌∙◌, subst, append_assoc, append-nil, zero-add, arith}
use Rattle.std.specs.List.{flat_map, enumerate_from}
use Rattle.std.proofs.lemmas.Grind.{flat_map-append}
use Rattle.std.proofs.lemmas.List.{take_more}
use Rattle.std.proofs.lemmas.List.FromFn.{length-enumerate_from, get_or-enumerate_from}
use Rattle.snmpsec_access.specs.Hints.{Told, of_each}

module _ {R : Type 0} (f : ℕ × R → List Told) where
  -- one row more
  taken : (rows : List R) (i : ℕ) (row : R) → i < length rows → row ≡ get_or rows i row → take (i + 1) (enumerate_from 0 rows) ≡ take i (enumerate_from 0 rows) ++ (i, row) ∷ []
  taken rows i row within at =
      let each = enumerate_from 0 rows in
      let long : i < length each = omega (arith, within, length-enumerate_from 0 rows) in
      let here : get_or each i (i, row) ≡ (i, row) =
      get_or-enumerate_from 0 rows i (i, row) within ∙ ap (λ (n : ℕ). (n, get_or rows i row)) (zero-add i) ∙ ap (λ (r : R). (i, r)) (sym at) in
      take_more each i (i, row) long ∙ ap (λ (p : ℕ × R). take i each ++ p ∷ []) here

  told_more : (rows : List R) (i : ℕ) (row : R) → i < length rows → row ≡ get_or rows i row
      → flat_map f (take (i + 1) (enumerate_from 0 rows)) ≡ flat_map f (take i (enumerate_from 0 rows)) ++ f (i, row)
  told_more rows i row within at =
      let front = take i (enumerate_from 0 rows) in
      ap (λ (ps : List (ℕ × R)). flat_map f ps) (taken rows i row within at) ∙ flat_map-append f front ((i, row) ∷ []) ∙ ap (λ t. flat_map f front ++ t) (append-nil (f (i, row)))

  -- the walk is over items, which are the rows
  pub one_more : (items rows : List R) → items ≡ rows → (i : ℕ) (row : R) (before between after : List Told) → i < length items → row ≡ get_or items i row
      → between ≡ before ++ flat_map f (take i (enumerate_from 0 rows)) → after ≡ between ++ f (i, row) → after ≡ before ++ flat_map f (take (i + 1) (enumerate_from 0 rows))
  one_more items rows same i row before between after within at g h =
      let inside : i < length rows = subst (λ (rs : List R). i < length rs) same within in
      let here : row ≡ get_or rows i row = at ∙ ap (λ (rs : List R). get_or rs i row) same in
      let front = flat_map f (take i (enumerate_from 0 rows)) in
      h ∙ ap (λ t. t ++ f (i, row)) g ∙ append_assoc before front (f (i, row)) ∙ ap (λ t. before ++ t) (sym (told_more rows i row inside here))

  pub all_told_of : (items rows : List R) → items ≡ rows → (i : ℕ) (before after : List Told) → length items ≤ i
      → after ≡ before ++ flat_map f (take i (enumerate_from 0 rows)) → after ≡ before ++ of_each f rows
  all_told_of items rows same i before after over g =
      let most : length rows ≤ i = subst (λ (rs : List R). length rs ≤ i) same over in
      let long : length (enumerate_from 0 rows) ≤ i = omega (arith, most, length-enumerate_from 0 rows) in
      g ∙ ap (λ (ps : List (ℕ × R)). before ++ flat_map f ps) (take_all i (enumerate_from 0 rows) long)
