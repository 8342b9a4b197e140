-- How many bindings of an answer are hidden, from left to right.
use Rattle.std.proofs.Common.{◌≡◌, ◌≤◌, ◌+◌, ℕ, zero, suc, List, [], ◌∷◌, length, Option, Some, None, inl, inr, refl, subst, sym, arith}
use Rattle.snmp_msg.specs.Variables.{Variable, binding_in, bindings_taken, variables_of, with_binding}
use Rattle.snmp_gate.specs.Hidden.{IsHiddenCount}

with_few : (n : ℕ) (octets : List ℕ) (o : Option (Variable × List ℕ)) → ((rest : List ℕ) → length (bindings_taken n rest).0 ≤ n)
    → length (with_binding (bindings_taken n) octets o).0 ≤ suc n
with_few n octets None few = omega arith
with_few n octets (Some x) few = omega (arith, few x.1)

taken_few : (n : ℕ) (octets : List ℕ) → length (bindings_taken n octets).0 ≤ n
unfolding bindings_taken
taken_few zero octets = omega arith
taken_few (suc n) octets = with_few n octets (binding_in octets) (taken_few n)

-- there are at most as many bindings as octets
pub few_variables : (octets : List ℕ) → length (variables_of octets) ≤ length octets
unfolding variables_of
few_variables octets = taken_few (length octets) octets

module _ (Seen : List ℕ → Type 0) where
  -- so many are hidden in all, if so many are hidden from here on
  abbrev pub CountsOn : List Variable → ℕ → List Variable → Type 0
  CountsOn all so_far left = (n : ℕ) → IsHiddenCount Seen left n → IsHiddenCount Seen all (so_far + n)

  pub counts_seen : (all left rest : List Variable) (v : Variable) (so_far : ℕ) → left ≡ v ∷ rest → Seen v.name → CountsOn all so_far left → CountsOn all so_far rest
  counts_seen all left rest v so_far is sees on n counts = on n (subst (λ (vs : List Variable). IsHiddenCount Seen vs n) (sym is) (inl (sees, counts)))

  pub counts_hidden : (all left rest : List Variable) (v : Variable) (so_far : ℕ) → left ≡ v ∷ rest → ¬ Seen v.name → CountsOn all so_far left → CountsOn all (so_far + 1) rest
  counts_hidden all left rest v so_far is hides on n counts =
      let more : so_far + (n + 1) ≡ so_far + 1 + n = omega arith in
      subst (IsHiddenCount Seen all) more (on (n + 1) (subst (λ (vs : List Variable). IsHiddenCount Seen vs (n + 1)) (sym is) (inr (hides, (n, refl, counts)))))

  pub counts_begun : (all left : List Variable) → left ≡ all → CountsOn all 0 left
  counts_begun all left is n counts =
      let same : n ≡ 0 + n = omega arith in
      subst (IsHiddenCount Seen all) same (subst (λ (vs : List Variable). IsHiddenCount Seen vs n) is counts)

  -- none are left
  pub counts_all : (all left : List Variable) (so_far : ℕ) → left ≡ [] → CountsOn all so_far left → IsHiddenCount Seen all so_far
  counts_all all left so_far none on =
      let whole : so_far + 0 ≡ so_far = omega arith in
      subst (IsHiddenCount Seen all) whole (on 0 (subst (λ (vs : List Variable). IsHiddenCount Seen vs 0) (sym none) refl))
