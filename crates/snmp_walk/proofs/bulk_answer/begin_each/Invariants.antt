use Rattle.snmp_walk.specs.BulkSteps.{Grows, IsBegun}
use Rattle.snmp_walk.proofs.Changed.{Changed}
use Rattle.snmp_walk.proofs.bulk_answer.begin_each.Given as goal

abbrev pub invariant-loop-column : goal.invariant-loop-column
invariant-loop-column l = Changed IsBegun l.initial.column-items l.column-index l.column-items
    × Changed Grows l.initial.column-items l.column-index l.column-items
