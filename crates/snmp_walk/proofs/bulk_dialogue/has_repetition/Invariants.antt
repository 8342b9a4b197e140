use Rattle.std.proofs.Common.{ℕ, ◌<◌, slice_index_or}
use Rattle.snmp_walk.specs.BulkColumn.{IsUnknownAt}
use Rattle.snmp_walk.specs.declared.bulk_column.BulkColumn.{BulkColumn}
use Rattle.snmp_walk.proofs.bulk_dialogue.has_repetition.Given as goal

abbrev pub invariant-loop-column : goal.invariant-loop-column
invariant-loop-column l = (k : ℕ) (d : BulkColumn) → k < l.column-index → ¬ IsUnknownAt (slice_index_or l.columns k d) 0
