use Rattle.std.proofs.Common.{take}
use Rattle.snmpsec_access.specs.Rising.{rows_at, AreLeft}
use Rattle.snmpsec_access.proofs.subtrees.needed_of_exact.Given as goal

abbrev pub invariant-loop-row : goal.invariant-loop-row
invariant-loop-row l = AreLeft (take l.row-index (rows_at l.rows)) (rows_at l.kept.items)
