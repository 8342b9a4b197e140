use Rattle.std.proofs.Common.{take}
use Rattle.vacm_core.specs.View.{AreExact}
use Rattle.snmpsec_access.specs.Rising.{rows_at}
use Rattle.snmpsec_access.proofs.subtrees.are_exact.Given as goal

abbrev pub invariant-loop-row : goal.invariant-loop-row
invariant-loop-row l = AreExact (take l.row-index (rows_at l.rows))
