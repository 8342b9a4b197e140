use Rattle.std.proofs.Common.{ℕ, ◌-◌, ◌<◌, ◌≤◌, length, get_or}
use Rattle.vacm_core.specs.declared.rows.FamilyRow.{FamilyRow}
use Rattle.vacm_next.specs.Opening.{IncludesLonger}
use Rattle.vacm_next.proofs.opening.opens.Given as goal

abbrev pub invariant-loop-place : goal.invariant-loop-place
invariant-loop-place l = (l.place ≤ length l.rows) × ((k : ℕ) (d : FamilyRow) → k < l.place → ¬ IncludesLonger l.rows l.beginning (get_or l.rows k d))

abbrev pub decreases-loop-place : goal.decreases-loop-place
decreases-loop-place l = length l.rows - l.place
