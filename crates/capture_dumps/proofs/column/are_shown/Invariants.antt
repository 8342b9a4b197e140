use Rattle.std.proofs.Common.{◌≡◌, length}
use Rattle.capture_dumps.specs.Column.{are_shown}
use Rattle.capture_dumps.proofs.column.are_shown.Given as goal

abbrev pub invariant-octets : goal.invariant-octets
invariant-octets l = are_shown l.fn.octets l.fn.text ≡ are_shown l.octets l.text

abbrev pub decreases-octets : goal.decreases-octets
decreases-octets l = length l.octets
