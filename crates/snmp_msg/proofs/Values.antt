-- What is found exactly where it is.
use Rattle.std.proofs.Common.{◌≡◌, Bool, Option, Some, None, IsTrue, refl}
use Rattle.std.specs.Prelude.{is_some}

pub told : {A : Type 0} (P : A → Type 0) (found : Option A) (some : Bool) → some ≡ is_some found
    → ((x : A) → (found ≡ Some x → P x) × (P x → found ≡ Some x)) → (IsTrue some → (x : A) × P x) × ((x : A) × P x → IsTrue some)
told P None some is exact = (λ t. absurd (cc (is, t)), λ p. absurd (cc ((exact p.0).1 p.1)))
told P (Some x) some is exact = (λ t. (x, (exact x).0 refl), λ p. is)
