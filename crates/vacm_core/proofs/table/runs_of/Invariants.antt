use Rattle.vacm_core.specs.RowOrder.{AreRuns}
use Rattle.vacm_core.proofs.table.runs_of.Given as goal

abbrev pub invariant-loop-place : goal.invariant-loop-place
invariant-loop-place g l = AreRuns g.R.NamedRow.name_of g.R.NamedRow.rank l.rows l.place l.runs.entries
