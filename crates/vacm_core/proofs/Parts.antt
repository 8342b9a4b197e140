-- Rows that are taken apart, and the tables that are made of them.
use Rattle.std.proofs.Common.{◌≡◌, ℕ, ◌+◌, ◌<◌, List, [], ◌∷◌, ◌++◌, length, get_or, take, sym, ap, subst, ◌∙◌, inl, inr}
use Rattle.std.specs.List.Sorted.{IsPermutation}
use Rattle.std.proofs.lemmas.List.{take_more, append_assoc}
use Rattle.std.proofs.lemmas.List.Elements.{Contains-push_cases}
use Rattle.std.proofs.lemmas.List.Sorted.{IsPermutation-sym, IsPermutation-middle, IsPermutation-to_front, IsPermutation-push_more, Contains-permutation}
use Rattle.vacm_core.specs.declared.rows.FamilyRow.{FamilyRow}
use Rattle.vacm_core.specs.Tables.{Tables, IsSameSet, HaveSameRows}
use Rattle.vacm_core.specs.Distinct.{HasOneRowEach}
use Rattle.vacm_core.specs.View.{IsExact, AreExact}

module _ {R : Type 0} (rows : List R) (i : ℕ) (row : R) (within : i < length rows) (at : row ≡ get_or rows i row) (xs ys : List R) (so_far : IsPermutation (take i rows) (xs ++ ys)) where
  one_more : take (i + 1) rows ≡ take i rows ++ row ∷ []
  one_more = take_more rows i row within ∙ ap (λ x. take i rows ++ x ∷ []) (sym at)

  to_first : IsPermutation (row ∷ (xs ++ ys)) ((xs ++ row ∷ []) ++ ys)
  to_first = subst (λ zs. IsPermutation (row ∷ (xs ++ ys)) zs) (sym (append_assoc xs (row ∷ []) ys)) (IsPermutation-sym _ _ (IsPermutation-middle xs row ys))

  to_second : IsPermutation (row ∷ (xs ++ ys)) (xs ++ (ys ++ row ∷ []))
  to_second = subst (λ zs. IsPermutation (row ∷ (xs ++ ys)) zs) (append_assoc xs ys (row ∷ [])) (IsPermutation-sym _ _ (IsPermutation-to_front (xs ++ ys) row))

  pub first_more : IsPermutation (take (i + 1) rows) ((xs ++ row ∷ []) ++ ys)
  first_more = subst (λ zs. IsPermutation zs ((xs ++ row ∷ []) ++ ys)) (sym one_more) (IsPermutation-push_more (take i rows) (xs ++ ys) _ row so_far to_first)

  pub second_more : IsPermutation (take (i + 1) rows) (xs ++ (ys ++ row ∷ []))
  second_more = subst (λ zs. IsPermutation zs (xs ++ (ys ++ row ∷ []))) (sym one_more) (IsPermutation-push_more (take i rows) (xs ++ ys) _ row so_far to_second)

pub exact_more : (rows : List FamilyRow) (row : FamilyRow) → AreExact rows → IsExact row → AreExact (rows ++ row ∷ [])
exact_more rows row exact this other c = elim (Contains-push_cases rows row other c) [
  | inl there ↦ exact other there
  | inr same ↦ subst IsExact same this
]

pub exact_moved : (xs ys : List FamilyRow) → IsPermutation xs ys → AreExact xs → AreExact ys
exact_moved xs ys moved exact row there = exact row (Contains-permutation ys xs row (IsPermutation-sym xs ys moved) there)

pub same_set : {R : Type 0} (xs ys : List R) → IsPermutation xs ys → IsSameSet xs ys
same_set xs ys moved = record { both = λ row. (Contains-permutation xs ys row moved, Contains-permutation ys xs row (IsPermutation-sym xs ys moved)) }

-- one row of each index, in whatever order
pub one_row_each_of_same : (s t : Tables) → HaveSameRows s t → HasOneRowEach s → HasOneRowEach t
one_row_each_of_same s t same one = record {
  groups = λ x y a b. one.groups x y ((same.groups.both x).1 a) ((same.groups.both y).1 b);
  access = λ x y a b. one.access x y ((same.access.both x).1 a) ((same.access.both y).1 b);
  families = λ x y a b. one.families x y ((same.families.both x).1 a) ((same.families.both y).1 b);
}
