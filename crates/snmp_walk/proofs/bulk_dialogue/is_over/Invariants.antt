use Rattle.std.proofs.Common.{◌≡◌, ◌+◌, drop}
use Rattle.snmp_walk.specs.BulkDialogue.{gathered_in}
use Rattle.snmp_walk.proofs.bulk_dialogue.is_over.Given as goal

abbrev pub invariant-loop-column : goal.invariant-loop-column
invariant-loop-column l = l.left + gathered_in l.columns ≡ l.most + gathered_in (drop l.column-index l.columns)
