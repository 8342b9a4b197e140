use Rattle.std.proofs.Common.{ℕ, ◌<◌}
use Rattle.capture_dumps.specs.Dump.{IsDumpFrom}
use Rattle.capture_dumps.proofs.dump.dump_place.Given as goal

abbrev pub invariant-loop-place : goal.invariant-loop-place
invariant-loop-place l = (before : ℕ) → before < l.place → IsDumpFrom l.text before → ⊥
