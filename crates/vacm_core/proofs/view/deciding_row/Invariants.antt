use Rattle.std.proofs.Common.{◌≡◌, ◌++◌, List, length}
use Rattle.vacm_core.specs.declared.rows.FamilyRow.{FamilyRow}
use Rattle.vacm_core.specs.RowOrder.{AreFalling}
use Rattle.vacm_core.specs.Wildcard.{wildcard_order, IsDecider}
use Rattle.vacm_core.proofs.view.deciding_row.Given as goal

abbrev pub decreases-loop-rest : goal.decreases-loop-rest
decreases-loop-rest l = length l.rest

abbrev pub invariant-loop-rest : goal.invariant-loop-rest
invariant-loop-rest l = (seen : List FamilyRow) × (l.exact ++ l.others ≡ seen ++ l.rest) × IsDecider l.variable seen l.found × AreFalling wildcard_order l.rest
