use Rattle.snmp_walk.specs.BulkSteps.{IsMarked}
use Rattle.snmp_walk.proofs.Changed.{Changed}
use Rattle.snmp_walk.proofs.bulk_answer.mark_each.Given as goal

abbrev pub invariant-loop-column : goal.invariant-loop-column
invariant-loop-column l = Changed IsMarked l.initial.column-items l.column-index l.column-items
