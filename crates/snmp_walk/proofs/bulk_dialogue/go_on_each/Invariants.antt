use Rattle.snmp_responder.specs.Code.{seen_by}
use Rattle.snmp_walk.specs.BulkSteps.{BulkGoesOn}
use Rattle.snmp_walk.proofs.Changed.{Changed}
use Rattle.snmp_walk.proofs.bulk_dialogue.go_on_each.Given as goal

abbrev pub invariant-loop-column : goal.invariant-loop-column
invariant-loop-column l = Changed (BulkGoesOn (seen_by l.viewer)) l.initial.column-items l.column-index l.column-items
