-- Steps that may fail, one after another.
use Rattle.std.specs.Prelude.{ℕ, nat_lt, if◌then◌else◌, List, length, Option, Some, None}

infixl 10 ◌>>=◌
abbrev pub ◌>>=◌ : {A B : Type 0} → Option A → (A → Option B) → Option B
None >>= f = None
(Some x) >>= f = f x

-- the value, where nothing is left
abbrev pub when_ended : {A : Type 0} → List ℕ → A → Option A
when_ended rest x = if nat_lt 0 (length rest) then None else Some x
