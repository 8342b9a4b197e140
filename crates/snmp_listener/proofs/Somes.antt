-- What holds of a value if there is one.
use Rattle.std.specs.Prelude.{Option, None, Some, IfSome, Result, Ok, Err, IfOk}

pub if_some : {A : Type 0} (P Q : A → Type 0) → ((x : A) → P x → Q x) → (o : Option A) → IfSome o P → IfSome o Q
if_some P Q f None h = tt
if_some P Q f (Some x) h = f x h

pub if_ok : {A E : Type 0} (P Q : A → Type 0) → ((x : A) → P x → Q x) → (r : Result A E) → IfOk r P → IfOk r Q
if_ok P Q f (Ok x) h = f x h
if_ok P Q f (Err e) h = tt
