use Rattle.std.proofs.Common.{ℕ, ◌-◌, ◌<◌, ◌≤◌, length, get_or}
use Rattle.vacm_core.specs.declared.rows.FamilyRow.{FamilyRow}
use Rattle.vacm_next.specs.Opening.{Exceeds}
use Rattle.vacm_next.proofs.opening.is_exceeded.Given as goal

abbrev pub invariant-loop-place : goal.invariant-loop-place
invariant-loop-place l = (l.place ≤ length l.rows) × ((k : ℕ) (d : FamilyRow) → k < l.place → ¬ Exceeds l.beginning l.row (get_or l.rows k d))

abbrev pub decreases-loop-place : goal.decreases-loop-place
decreases-loop-place l = length l.rows - l.place
