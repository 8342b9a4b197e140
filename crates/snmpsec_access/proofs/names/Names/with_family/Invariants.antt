use Rattle.std.proofs.Common.{take}
use Rattle.snmpsec_access.specs.Known.{AreThose}
use Rattle.snmpsec_access.specs.Names.{has_family}
use Rattle.snmpsec_access.proofs.names.Names.with_family.Given as goal

abbrev pub invariant-loop-row : goal.invariant-loop-row
invariant-loop-row l = AreThose l.names (has_family (take l.row-index l.families))
