-- Lists in which one element was replaced.
use Rattle.std.specs.Prelude.{◌≡◌, ◌≢◌, ℕ, suc, ◌<◌, List, All, AllPairs, drop, length, remove, slice_index_or, slice_set, take}
use Rattle.std.proofs.Common.{sym, ap, subst, ◌∙◌, inl, inr, arith}
use Rattle.std.proofs.lemmas.Bool.Decides.{eqb_tells}
use Rattle.std.proofs.lemmas.List.{get_or_default, get_or-set_other, get_or-set_same, length-set}
use Rattle.std.proofs.lemmas.List.Elements.{All-append, All-drop, All-take}

pub all_removed : {X : Type 0} (P : X → Type 0) (xs : List X) (i : ℕ) → All P xs → All P (remove xs i)
all_removed P xs i all = All-append P (take i xs) (drop (suc i) xs) (All-take P i xs all) (All-drop P (suc i) xs all)

module _ {X : Type 0} (R : X → X → Type 0) (xs : List X) (place : ℕ) (old new : X) (within : place < length xs) (is : old ≡ slice_index_or xs place old) where
  -- the element that was replaced, by what is read there with any default
  read : (i : ℕ) (d : X) → i ≡ place → slice_index_or xs i d ≡ old
  read i d at = ap (λ (k : ℕ). slice_index_or xs k d) at ∙ get_or_default xs place d old within ∙ sym is

  read_new : (i : ℕ) (d : X) → i ≡ place → slice_index_or (slice_set xs place new) i d ≡ new
  read_new i d at = ap (λ (k : ℕ). slice_index_or (slice_set xs place new) k d) at ∙ get_or-set_same xs place new d within

  -- what holds of the old one, before and after others, holds of the new one
  pub pairs_set : ((x : X) → R old x → R new x) → ((x : X) → R x old → R x new) → AllPairs R xs → AllPairs R (slice_set xs place new)
  pairs_set before after pairs i j d below last =
      let short : j < length xs = omega (arith, length-set xs place new, last) in
      elim (eqb_tells i place) [
        | inl (test, i_at) ↦
            let j_other : j ≢ place = omega (arith, below, i_at) in
            subst (λ (x : X). R x (slice_index_or (slice_set xs place new) j d)) (sym (read_new i d i_at))
            (subst (λ (y : X). R new y) (sym (get_or-set_other xs place j new d j_other))
            (before (slice_index_or xs j d) (subst (λ (x : X). R x (slice_index_or xs j d)) (read i d i_at) (pairs i j d below short))))
        | inr (test, i_other) ↦ subst (λ (x : X). R x (slice_index_or (slice_set xs place new) j d)) (sym (get_or-set_other xs place i new d i_other)) (elim (eqb_tells j place) [
          | inl (test_j, j_at) ↦ subst (λ (y : X). R (slice_index_or xs i d) y) (sym (read_new j d j_at))
              (after (slice_index_or xs i d) (subst (λ (y : X). R (slice_index_or xs i d) y) (read j d j_at) (pairs i j d below short)))
          | inr (test_j, j_other) ↦ subst (λ (y : X). R (slice_index_or xs i d) y) (sym (get_or-set_other xs place j new d j_other)) (pairs i j d below short)
        ])
      ]
