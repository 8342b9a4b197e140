-- What is at a place of a list.
use Rattle.std.proofs.Common.{◌≡◌, ◌<◌, ℕ, List, length, get_or, slice_get, Some, refl}
use Rattle.std.proofs.lemmas.Option.{slice_get_read}

pub at_place : {X : Type 0} (xs ys : List X) (i : ℕ) (x : X) → xs ≡ ys → i < length ys → x ≡ get_or ys i x → slice_get xs i ≡ Some x
at_place xs ys i x same within is = rw same (slice_get_read ys (length ys) i x refl within is)
