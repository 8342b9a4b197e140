use Rattle.std.proofs.Common.{◌≡◌, ℕ, ◌<◌, slice_index}
use Rattle.vacm_core.specs.Allowed.{mask_bit}
use Rattle.vacm_next.proofs.opening.agrees.Given as goal

abbrev pub invariant-loop-k : goal.invariant-loop-k
invariant-loop-k l = (k : ℕ) → k < l.k → mask_bit l.row.mask k ≡ 1 → slice_index l.arcs k ≡ slice_index l.beginning k
