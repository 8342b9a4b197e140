-- What is said of a refusal, where there is one.
use Rattle.std.proofs.Common.{◌≡◌, Option, Some, None, refl}
use Rattle.std.specs.Prelude.{IfSome}

pub if_told : {A : Type 0} (refusal : Option A) (Says : A → Type 0) → ((a : A) → refusal ≡ Some a → Says a) → IfSome refusal Says
if_told None Says says = tt
if_told (Some a) Says says = says a refl
