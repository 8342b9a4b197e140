-- A set of views, and one view more.
use Rattle.std.proofs.Common.{◌≡◌, ℕ, Bool, true, false, cond, ◌||◌, List, ap, ◌∙◌, refl}
use Rattle.std.specs.Str.{bytes_eq}
use Rattle.std.specs.Borrow.{Bor}
use Rattle.std.specs.HashSet.{HashSet, contains_by, UpdatesBy}
use Rattle.std.proofs.lemmas.Cmp.{nat_list_eq_equiv}

chosen : (b c : Bool) → cond b true c ≡ (c || b)
chosen true true = refl
chosen true false = refl
chosen false true = refl
chosen false false = refl

pub added : {S : Type 0} (old new : HashSet (Bor (List ℕ)) S) (name : List ℕ) → UpdatesBy (λ x y. bytes_eq x.now y.now) (λ key. bytes_eq name key.now) old new true
    → (other : List ℕ) → contains_by (λ key. bytes_eq other key.now) new ≡ (contains_by (λ key. bytes_eq other key.now) old || bytes_eq other name)
added old new name updates other =
    let q : Bor (List ℕ) = record { ref_ptr = (0, 0); now = other } in
    updates.0 q ∙ chosen (bytes_eq name other) (contains_by (λ key. bytes_eq other key.now) old)
    ∙ ap (λ b. contains_by (λ key. bytes_eq other key.now) old || b) (nat_list_eq_equiv.symm name other)
