-- Rows that are picked, a row at a time.
use Rattle.std.proofs.Common.{◌≡◌, ℕ, zero, suc, ◌+◌, ◌<◌, List, [], ◌∷◌, ◌++◌, length, get_or, take, sym, ap, ◌∙◌, subst, refl, inl, inr, arith}
use Rattle.std.specs.Prelude.{Contains, if◌then◌else◌}
use Rattle.std.specs.Borrow.{Bor}
use Rattle.std.specs.Ordering.{is_lt}
use Rattle.std.specs.List.Sorted.{IsSorted, IsSortedBy}
use Rattle.std.proofs.lemmas.List.{length-map, take_more, get_or_default, get_or-take, length-take}
use Rattle.std.proofs.lemmas.List.Elements.{Contains-push_cases}
use Rattle.vacm_core.specs.declared.rows.FamilyRow.{FamilyRow}
use Rattle.vacm_core.specs.Allowed.{family_order}
use Rattle.vacm_core.specs.View.{IsExact, AreExact}
use Rattle.snmpsec_access.specs.Rising.{AreLeft, IsNext, rows_at}
use Rattle.snmpsec_access.proofs.Shortens.{left_out, kept_more}
use Rattle.snmpsec_access.proofs.Decides.{above_earlier}

-- ---- references and what they point to

pub at_now : (items : List (Bor FamilyRow)) (k : ℕ) (d : Bor FamilyRow) → get_or (rows_at items) k d.now ≡ (get_or items k d).now
at_now [] zero d = refl
at_now [] (suc k) d = refl
at_now (x ∷ xs) zero d = refl
at_now (x ∷ xs) (suc k) d = at_now xs k d

-- one more of the rows that are looked at
pub one_more : (rows : List FamilyRow) (i : ℕ) (row : FamilyRow) → i < length rows → row ≡ get_or rows i row → take (i + 1) rows ≡ take i rows ++ row ∷ []
one_more rows i row within at = take_more rows i row within ∙ ap (λ (x : FamilyRow). take i rows ++ x ∷ []) (sym at)

pub item_at : (items : List (Bor FamilyRow)) (i : ℕ) (item : Bor FamilyRow) → item ≡ get_or items i item → item.now ≡ get_or (rows_at items) i item.now
item_at items i item at = ap (λ (r : Bor FamilyRow). r.now) at ∙ sym (at_now items i item)

pub within_rows : (items : List (Bor FamilyRow)) (i : ℕ) → i < length items → i < length (rows_at items)
within_rows items i within = let long = length-map items (λ (r : Bor FamilyRow). r.now) in omega (arith, within, long)

pub items_more : (items : List (Bor FamilyRow)) (i : ℕ) (item : Bor FamilyRow) → i < length items → item ≡ get_or items i item → take (i + 1) (rows_at items) ≡ take i (rows_at items) ++ item.now ∷ []
items_more items i item within at = one_more (rows_at items) i item.now (within_rows items i within) (item_at items i item at)

pub taken_there : (rows : List FamilyRow) (i : ℕ) (row : FamilyRow) → Contains (take i rows) row → Contains rows row
taken_there rows i row c = (c.0, omega (arith, c.1, length-take i rows), sym (get_or-take i rows c.0 row (omega (arith, c.1, length-take i rows))) ∙ c.2)

-- ---- sorted

pub sorted_now : (items : List (Bor FamilyRow)) → IsSortedBy (λ (a b : Bor FamilyRow). is_lt (family_order a.now b.now)) items → IsSorted family_order (rows_at items)
sorted_now items sorted k d low within =
    let inside : k + 1 < length items = let long = length-map items (λ (r : Bor FamilyRow). r.now) in omega arith in
    let e = some items (k + 1) inside in
    let first : get_or (rows_at items) (k + 1) d ≡ (get_or items (k + 1) e).now = get_or_default (rows_at items) (k + 1) d e.now within ∙ at_now items (k + 1) e in
    let second : get_or (rows_at items) k d ≡ (get_or items k e).now = get_or_default (rows_at items) k d e.now (omega (arith, within)) ∙ at_now items k e in
    rw (first, second) (sorted k e low inside)
  where
    some : (items : List (Bor FamilyRow)) (k : ℕ) → k < length items → Bor FamilyRow
    some [] k within = absurd (omega (arith, within))
    some (x ∷ xs) k within = x

-- ---- what rows without a wildcard say

pub exact_more : (rows : List FamilyRow) (row : FamilyRow) → IsExact row → AreExact rows → AreExact (rows ++ row ∷ [])
exact_more rows row exact all r c = elim (Contains-push_cases rows row r c) [
  | inl there ↦ all r there
  | inr same ↦ subst IsExact same exact
]

-- ---- those that are needed

module _ (rows : List FamilyRow) (i : ℕ) (row : FamilyRow) (within : i < length rows) (at : row ≡ get_or rows i row) (rising : IsSorted family_order rows) (exact : AreExact rows)
    (one_each : (x y : FamilyRow) → Contains rows x → Contains rows y → x.subtree ≡ y.subtree → x ≡ y) where
  there : Contains rows row
  there = (i, within, sym at)

  pub next_left : (kept next : List FamilyRow) → AreLeft (take i rows) kept → IsNext kept row next → AreLeft (take (i + 1) rows) next
  next_left kept next left (inl (says, same)) =
      subst (λ (n : List FamilyRow). AreLeft (take (i + 1) rows) n) (sym same) (subst (λ (seen : List FamilyRow). AreLeft seen kept) (sym (one_more rows i row within at))
      (left_out (take i rows) kept row left (exact row there) (λ r c. exact r (taken_there rows i r c)) (λ r c. above_earlier rows rising i row r within at c) says))
  next_left kept next left (inr (says_not, longer)) =
      subst (λ (n : List FamilyRow). AreLeft (take (i + 1) rows) n) (sym longer) (subst (λ (seen : List FamilyRow). AreLeft seen (kept ++ row ∷ [])) (sym (one_more rows i row within at))
      (kept_more (take i rows) kept row left (exact row there) (λ r c. exact r (taken_there rows i r c)) (λ r c. above_earlier rows rising i row r within at c)
      (λ r c same. ap (λ (x : FamilyRow). x.include) (one_each r row (taken_there rows i r c) there same)) says_not))
