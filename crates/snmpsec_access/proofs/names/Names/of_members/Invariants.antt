use Rattle.std.proofs.Common.{take}
use Rattle.snmpsec_access.specs.Known.{AreThose}
use Rattle.snmpsec_access.specs.Names.{is_grouped}
use Rattle.snmpsec_access.proofs.names.Names.of_members.Given as goal

abbrev pub invariant-loop-row : goal.invariant-loop-row
invariant-loop-row l = AreThose l.names (is_grouped (take l.row-index l.groups))
