-- What is printed is so, where something is, of what is said of its parts.
use Rattle.std.proofs.Common.{Result, Ok, Err, ◌⊎◌, inl, inr}
use Rattle.std.specs.Prelude.{IfOk, OnOk}

module _ {A E : Type 0} {P Q S : A → Type 0} where
  pub of_two : (r : Result A E) → ((x : A) → P x → Q x → S x) → IfOk r P → IfOk r Q → IfOk r S
  of_two (Ok x) so p q = so x p q
  of_two (Err e) so p q = tt

  pub of_three : {R : A → Type 0} (r : Result A E) → ((x : A) → P x → Q x → R x → S x) → IfOk r P → IfOk r Q → IfOk r R → IfOk r S
  of_three (Ok x) so p q h = so x p q h
  of_three (Err e) so p q h = tt

  pub of_four : {O : Type 0} {R : A → Type 0} (r : Result A E) → ((x : A) → O → P x → Q x → R x → S x) → OnOk r O → IfOk r P → IfOk r Q → IfOk r R → IfOk r S
  of_four (Ok x) so o p q h = so x o p q h
  of_four (Err e) so o p q h = tt

-- the other one holds
pub other : {A B : Type 0} → A ⊎ B → ¬ A → B
other (inl a) none = absurd (none a)
other (inr b) none = b
