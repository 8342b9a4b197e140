-- Walks over rows that carry on what is said of each asked: from nothing, and joined at their ends.
use Rattle.std.proofs.Common.{◌≡◌, ℕ, ◌+◌, ◌<◌, List, [], ◌∷◌, ◌++◌, length, get_or, take, map, sym, ap, ◌∙◌, subst, append-nil}
use Rattle.std.specs.List.{flat_map}
use Rattle.std.proofs.lemmas.Grind.{flat_map-append}
use Rattle.std.proofs.lemmas.List.{take_more, map-append, get_or_default}

module _ {A S : Type 0} (On : List A → S → S → Type 0) (nothing : (s : S) → On [] s s) (goes_on : (xs ys : List A) (a b c : S) → On xs a b → On ys b c → On (xs ++ ys) a c) where
  -- a row at a time, each of which gives one
  pub one_more : {R : Type 0} (f : R → A) (rows : List R) (i : ℕ) (row : R) (before between after : S) → i < length rows → row ≡ get_or rows i row
      → On (map f (take i rows)) before between → On (f row ∷ []) between after → On (map f (take (i + 1) rows)) before after
  one_more {R} f rows i row before between after within at g h =
      let taken : take (i + 1) rows ≡ take i rows ++ row ∷ [] = take_more rows i row within ∙ ap (λ (x : R). take i rows ++ x ∷ []) (sym at) in
      let asked : map f (take (i + 1) rows) ≡ map f (take i rows) ++ f row ∷ [] = ap (λ (rs : List R). map f rs) taken ∙ map-append f (take i rows) (row ∷ []) in
      subst (λ (xs : List A). On xs before after) (sym asked) (goes_on (map f (take i rows)) (f row ∷ []) before between after g h)

  -- a row at a time, each of which gives many
  pub many_more : {R : Type 0} (f : R → List A) (rows : List R) (i : ℕ) (row : R) (before between after : S) → i < length rows → row ≡ get_or rows i row
      → On (flat_map f (take i rows)) before between → On (f row) between after → On (flat_map f (take (i + 1) rows)) before after
  many_more {R} f rows i row before between after within at g h =
      let taken : take (i + 1) rows ≡ take i rows ++ row ∷ [] = take_more rows i row within ∙ ap (λ (x : R). take i rows ++ x ∷ []) (sym at) in
      let asked : flat_map f (take (i + 1) rows) ≡ flat_map f (take i rows) ++ f row =
      ap (λ (rs : List R). flat_map f rs) taken ∙ flat_map-append f (take i rows) (row ∷ []) ∙ ap (λ t. flat_map f (take i rows) ++ t) (append-nil (f row)) in
      subst (λ (xs : List A). On xs before after) (sym asked) (goes_on (flat_map f (take i rows)) (f row) before between after g h)

  pub many_at : {R : Type 0} (f : R → List A) (rows : List R) (i : ℕ) (d : R) (before between after : S) → i < length rows
      → On (flat_map f (take i rows)) before between → On (f (get_or rows i d)) between after → On (flat_map f (take (i + 1) rows)) before after
  many_at f rows i d before between after within g h = many_more f rows i (get_or rows i d) before between after within (get_or_default rows i d (get_or rows i d) within) g h

  pub three : (xs ys zs : List A) (a b c d : S) → On xs a b → On ys b c → On zs c d → On (xs ++ (ys ++ (zs ++ []))) a d
  three xs ys zs a b c d g h i = goes_on xs (ys ++ (zs ++ [])) a b d g (goes_on ys (zs ++ []) b c d h (goes_on zs [] c d d i (nothing d)))
