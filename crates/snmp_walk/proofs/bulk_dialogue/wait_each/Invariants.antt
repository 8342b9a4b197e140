use Rattle.snmp_walk.specs.BulkSteps.{ColumnWaits}
use Rattle.snmp_walk.proofs.Changed.{Changed}
use Rattle.snmp_walk.proofs.bulk_dialogue.wait_each.Given as goal

abbrev pub invariant-loop-column : goal.invariant-loop-column
invariant-loop-column l = Changed ColumnWaits l.initial.column-items l.column-index l.column-items
