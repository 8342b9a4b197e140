use Rattle.std.proofs.Common.{take}
use Rattle.snmpsec_access.specs.Known.{AreThose}
use Rattle.snmpsec_access.specs.Names.{has_access}
use Rattle.snmpsec_access.proofs.names.Names.with_access.Given as goal

abbrev pub invariant-loop-row : goal.invariant-loop-row
invariant-loop-row l = AreThose l.names (has_access (take l.row-index l.access))
