-- How many units a second has.
use Rattle.std.proofs.Common.{ℕ, ◌-◌, ◌^◌, ◌<◌, Bool, true, false, if◌then◌else◌, nat_le, arith}
use Rattle.std.proofs.Math.Nat.{one-le-pow}
use Rattle.capture_files.specs.Pcapng.{units}

some_at : (b : Bool) (m n : ℕ) → 0 < (if b then 2 ^ m else 10 ^ n)
some_at true m n = let p = one-le-pow m 2 (omega arith) in omega (arith, p)
some_at false m n = let p = one-le-pow n 10 (omega arith) in omega (arith, p)

-- at least one
pub units_some : (resolution : ℕ) → 0 < units resolution
units_some resolution = some_at (nat_le 128 resolution) (resolution - 128) resolution
