use Rattle.std.proofs.Common.{◌+◌, ◌≤◌, length}
use Rattle.std.specs.Prelude.{Contains}
use Rattle.vacm_core.specs.View.{HasArcs}
use Rattle.vacm_core.specs.declared.rows.FamilyRow.{FamilyRow}
use Rattle.snmpsec_access.specs.Rising.{rows_at}
use Rattle.snmpsec_access.proofs.subtrees.says.Given as goal

abbrev pub decreases-loop-left : goal.decreases-loop-left
decreases-loop-left l = l.left

abbrev pub invariant-loop-left : goal.invariant-loop-left
invariant-loop-left l =
    (l.left ≤ length l.variable + 1) × ((row : FamilyRow) → Contains (rows_at l.rows) row → l.left ≤ length row.subtree → ¬ HasArcs l.variable row)
