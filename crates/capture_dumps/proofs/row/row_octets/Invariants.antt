use Rattle.std.proofs.Common.{◌≡◌, length}
use Rattle.capture_dumps.specs.Column.{seen_size}
use Rattle.capture_dumps.proofs.Rows.{ReadTo}
use Rattle.capture_dumps.proofs.row.row_octets.Given as goal

abbrev pub invariant-pairs : goal.invariant-pairs
invariant-pairs l = record {
  to : ReadTo l.fn.text l.octets.items l.rest;
  seen : l.seen ≡ seen_size l.octets.items;
}

abbrev pub decreases-pairs : goal.decreases-pairs
decreases-pairs l = length l.rest
