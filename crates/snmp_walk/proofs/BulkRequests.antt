-- What columns of a GetBulkRequest are for.
use Rattle.std.specs.Prelude.{◌≡◌, ℕ, List, [], ◌∷◌, ◌++◌, drop, length, map, take}
use Rattle.std.proofs.Common.{refl, suc, zero, sym, ap, ◌∙◌, inl, inr, arith, append_assoc, append-nil}
use Rattle.std.proofs.lemmas.Bool.{cases_lt}
use Rattle.std.proofs.lemmas.List.{drop_all, drop-append-le, length_push, take_all, take-append-le}
use Rattle.snmp_msg.specs.Variables.{Variable}
use Rattle.snmp_walk.specs.BulkColumn.{bulk_request}
use Rattle.snmp_walk.specs.BulkDialogue.{IsMostOf, bulk_requests_of}
use Rattle.snmp_walk.specs.declared.bulk_column.BulkColumn.{BulkColumn}
use Rattle.snmp_walk.proofs.Pushed.{map_push}

pub none_requested : (n most : ℕ) → [] ≡ bulk_requests_of n most []
none_requested zero most = refl
none_requested (suc n) most = refl

-- The columns are for the bindings, also with one more of each.
pub bulk_pushed : (n most : ℕ) (cs : List BulkColumn) (c : BulkColumn) (vs : List Variable) (v : Variable) (wanted : ℕ) → length cs ≡ length vs → map bulk_request cs ≡ bulk_requests_of n most vs → bulk_request c ≡ (v.name, wanted)
    → IsMostOf (length cs) n most wanted → map bulk_request (cs ++ c ∷ []) ≡ bulk_requests_of n most (vs ++ v ∷ [])
bulk_pushed n most cs c vs v wanted long same is wants =
    let s : Variable → List ℕ × ℕ = λ w. (w.name, 1) in
    let r : Variable → List ℕ × ℕ = λ w. (w.name, most) in
    map_push bulk_request cs c ∙ (λ i. same i ++ is i ∷ []) ∙ (elim (cases_lt (length cs) n) [
      | inl less ↦
          let all : take n vs ≡ vs = take_all n vs (omega (arith, less, long)) in
          let none : drop n vs ≡ [] = drop_all n vs (omega (arith, less, long)) in
          let all_too : take n (vs ++ v ∷ []) ≡ vs ++ v ∷ [] = take_all n (vs ++ v ∷ []) (omega (arith, less, long, length_push vs v)) in
          let none_too : drop n (vs ++ v ∷ []) ≡ [] = drop_all n (vs ++ v ∷ []) (omega (arith, less, long, length_push vs v)) in
          (λ i. (map s (all i) ++ map r (none i)) ++ (v.name, wants.single less i) ∷ [])
          ∙ ap (λ xs. xs ++ (v.name, 1) ∷ []) (append-nil (map s vs)) ∙ sym (map_push s vs v) ∙ sym (append-nil (map s (vs ++ v ∷ []))) ∙ (λ i. sym (ap (map s) all_too) i ++ sym (ap (map r) none_too) i)
      | inr from ↦
          let first : take n (vs ++ v ∷ []) ≡ take n vs = take-append-le n vs (v ∷ []) (omega (arith, from, long)) in
          let rest : drop n (vs ++ v ∷ []) ≡ drop n vs ++ v ∷ [] = drop-append-le n vs (v ∷ []) (omega (arith, from, long)) in
          (λ i. (map s (take n vs) ++ map r (drop n vs)) ++ (v.name, wants.repeated from i) ∷ [])
          ∙ append_assoc (map s (take n vs)) (map r (drop n vs)) (r v ∷ []) ∙ ap (λ xs. map s (take n vs) ++ xs) (sym (map_push r (drop n vs) v)) ∙ (λ i. sym (ap (map s) first) i ++ sym (ap (map r) rest) i)
    ])
