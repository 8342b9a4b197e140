use Rattle.std.proofs.Common.{ℕ, ◌<◌, slice_index_or}
use Rattle.snmp_walk.specs.BulkColumn.{Wants}
use Rattle.snmp_walk.specs.declared.bulk_column.BulkColumn.{BulkColumn}
use Rattle.snmp_walk.proofs.bulk_dialogue.first_wanting.Given as goal

abbrev pub invariant-loop-number : goal.invariant-loop-number
invariant-loop-number l = (k : ℕ) (d : BulkColumn) → k < l.number → ¬ Wants (slice_index_or l.columns k d)
