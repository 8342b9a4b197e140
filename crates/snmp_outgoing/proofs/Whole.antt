-- What holds whatever was written.
use Rattle.std.proofs.Common.{Result, Ok, Err}
use Rattle.std.specs.Prelude.{IfOk}

pub if_any_ok : {T E : Type 0} {P : Type 0} (r : Result T E) → P → IfOk r (λ _. P)
if_any_ok (Ok x) p = p
if_any_ok (Err e) p = tt
