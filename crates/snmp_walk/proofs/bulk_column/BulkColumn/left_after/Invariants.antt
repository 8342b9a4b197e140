use Rattle.std.proofs.Common.{◌≡◌, ◌+◌, drop, map}
use Rattle.snmp_walk.specs.Bindings.{given_says}
use Rattle.snmp_walk.specs.BulkColumn.{octets_in}
use Rattle.snmp_walk.proofs.bulk_column.BulkColumn.left_after.Given as goal

abbrev pub invariant-loop-given : goal.invariant-loop-given
invariant-loop-given l = l.left + octets_in (map given_says l.given-items) ≡ l.initial.left + octets_in (map given_says (drop l.given-index l.given-items))
