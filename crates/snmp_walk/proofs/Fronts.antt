-- The front of a GetBulkRequest.
use Rattle.std.specs.Prelude.{◌≡◌, ◌<◌, ◌≤◌, ◌+◌, ◌-◌, ℕ, zero, suc, List, [], ◌∷◌, ◌++◌, drop, length, slice_index_or}
use Rattle.std.proofs.Common.{refl, sym, ap, subst, ◌∙◌, inl, inr, arith, append_assoc, append-nil}
use Rattle.std.proofs.lemmas.List.{drop_all, drop_more}
use Rattle.snmp_msg.specs.Variables.{Variable}
use Rattle.snmp_walk.specs.BulkColumn.{IsAt, IsUnknownAt}
use Rattle.snmp_walk.specs.Front.{AreKnown, AreOverAt, IsCutRow, IsRowAt}
use Rattle.snmp_walk.specs.declared.bulk_column.BulkColumn.{BulkColumn}

-- of the first columns these are known
pub record RowUpto (cs : List BulkColumn) (k i : ℕ) (row : List Variable) : Type 0 where
  pub whole : (rest : List Variable) → IsRowAt (drop i cs) k rest → IsRowAt cs k (row ++ rest)
  pub cut : (rest : List Variable) → IsCutRow (drop i cs) k rest → IsCutRow cs k (row ++ rest)

pub row_more : (cs : List BulkColumn) (k i : ℕ) (row : List Variable) (c : BulkColumn) (v : Variable) → i < length cs → c ≡ slice_index_or cs i c → IsAt c k v → RowUpto cs k i row → RowUpto cs k (i + 1) (row ++ v ∷ [])
row_more cs k i row c v within is at upto =
    let split : drop i cs ≡ c ∷ drop (i + 1) cs = drop_more cs i c within ∙ ap (λ (x : BulkColumn). x ∷ drop (i + 1) cs) (sym is) in
    record {
      whole = λ rest more. subst (IsRowAt cs k) (sym (append_assoc row (v ∷ []) rest))
          (upto.whole (v ∷ rest) (subst (λ (xs : List BulkColumn). IsRowAt xs k (v ∷ rest)) (sym split) (at, more)));
      cut = λ rest more. subst (IsCutRow cs k) (sym (append_assoc row (v ∷ []) rest))
          (upto.cut (v ∷ rest) (subst (λ (xs : List BulkColumn). IsCutRow xs k (v ∷ rest)) (sym split) (inr (v, rest, refl, at, more))));
    }

pub row_whole : (cs : List BulkColumn) (k i : ℕ) (row : List Variable) → length cs ≤ i → RowUpto cs k i row → IsRowAt cs k row
row_whole cs k i row past upto =
    subst (IsRowAt cs k) (append-nil row) (upto.whole [] (subst (λ (xs : List BulkColumn). IsRowAt xs k []) (sym (drop_all i cs past)) tt))

pub row_cut : (cs : List BulkColumn) (k i : ℕ) (row : List Variable) (c : BulkColumn) → i < length cs → c ≡ slice_index_or cs i c → IsUnknownAt c k → RowUpto cs k i row → IsCutRow cs k row
row_cut cs k i row c within is unknown upto =
    let split : drop i cs ≡ c ∷ drop (i + 1) cs = drop_more cs i c within ∙ ap (λ (x : BulkColumn). x ∷ drop (i + 1) cs) (sym is) in
    subst (IsCutRow cs k) (append-nil row) (upto.cut [] (subst (λ (xs : List BulkColumn). IsCutRow xs k []) (sym split) (inl (unknown, refl))))

-- ---- repetitions

pub known_cut : (cs : List BulkColumn) (n k : ℕ) (row : List Variable) → 0 < n → IsCutRow cs k row → AreKnown cs n k row
known_cut cs zero k row some cut = absurd (omega arith)
known_cut cs (suc n) k row some cut = inl cut

pub known_last : (cs : List BulkColumn) (n k : ℕ) (row : List Variable) → 0 < n → IsRowAt cs k row → AreOverAt cs k → AreKnown cs n k row
known_last cs zero k row some is over = absurd (omega arith)
known_last cs (suc n) k row some is over = inr (row, [], sym (append-nil row), is, inl (over, refl))

pub known_more : (cs : List BulkColumn) (n k : ℕ) (row rest : List Variable) → 0 < n → IsRowAt cs k row → ¬ AreOverAt cs k → AreKnown cs (n - 1) (k + 1) rest → AreKnown cs n k (row ++ rest)
known_more cs zero k row rest some is not more = absurd (omega arith)
known_more cs (suc n) k row rest some is not more =
    let less : suc n - 1 ≡ n = omega arith in
    inr (row, rest, refl, is, inr (not, subst (λ m. AreKnown cs m (k + 1) rest) less more))

pub known_none : (cs : List BulkColumn) (n k : ℕ) → n ≤ 0 → AreKnown cs n k []
known_none cs zero k none = refl
known_none cs (suc n) k none = absurd (omega arith)
