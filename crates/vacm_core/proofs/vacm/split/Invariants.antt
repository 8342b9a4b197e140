use Rattle.std.proofs.Common.{◌++◌, take}
use Rattle.std.specs.List.Sorted.{IsPermutation}
use Rattle.vacm_core.specs.View.{AreExact}
use Rattle.vacm_core.proofs.vacm.split.Given as goal

abbrev pub invariant-loop-row : goal.invariant-loop-row
invariant-loop-row l = IsPermutation (take l.row-index l.rows) (l.exact.items ++ l.others.items) × AreExact l.exact.items
