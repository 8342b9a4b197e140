use Rattle.std.proofs.Common.{◌≡◌, ℕ, ◌<◌, ◌≤◌, slice_index}
use Rattle.vacm_core.specs.Allowed.{mask_bit}
use Rattle.vacm_next.proofs.opening.covers.Given as goal

abbrev pub invariant-loop-k : goal.invariant-loop-k
invariant-loop-k l =
    (k : ℕ) → l.depth ≤ k → k < l.k → mask_bit l.row.mask k ≡ 1 → (mask_bit l.other.mask k ≡ 1) × (slice_index l.arcs k ≡ slice_index l.others k)
