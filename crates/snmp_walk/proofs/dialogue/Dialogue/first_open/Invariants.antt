use Rattle.std.proofs.Common.{ℕ, ◌<◌, slice_index_or}
use Rattle.snmp_walk.specs.Column.{IsOpen}
use Rattle.snmp_walk.specs.declared.column.Column.{Column}
use Rattle.snmp_walk.proofs.dialogue.Dialogue.first_open.Given as goal

abbrev pub invariant-loop-number : goal.invariant-loop-number
invariant-loop-number l = (k : ℕ) (e : Column) → k < l.number → ¬ IsOpen (slice_index_or l.column-items k e).progress
