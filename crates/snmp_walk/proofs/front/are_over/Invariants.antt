use Rattle.std.proofs.Common.{ℕ, ◌<◌, slice_index_or}
use Rattle.snmp_walk.specs.Front.{IsOverAt}
use Rattle.snmp_walk.specs.declared.bulk_column.BulkColumn.{BulkColumn}
use Rattle.snmp_walk.proofs.front.are_over.Given as goal

abbrev pub invariant-loop-column : goal.invariant-loop-column
invariant-loop-column l = (k : ℕ) (d : BulkColumn) → k < l.column-index → IsOverAt l.repetition (slice_index_or l.columns k d)
