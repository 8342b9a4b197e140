use Rattle.std.proofs.Common.{◌+◌, ◌≤◌, length, Contains}
use Rattle.vacm_core.specs.View.{HasArcs}
use Rattle.vacm_core.specs.declared.rows.FamilyRow.{FamilyRow}
use Rattle.vacm_core.proofs.view.best_of_exact.Given as goal

abbrev pub decreases-loop-left : goal.decreases-loop-left
decreases-loop-left l = l.left

abbrev pub invariant-loop-left : goal.invariant-loop-left
invariant-loop-left l = (l.left ≤ length l.variable + 1) × ((row : FamilyRow) → Contains l.rows row → l.left ≤ length row.subtree → ¬ HasArcs l.variable row)
