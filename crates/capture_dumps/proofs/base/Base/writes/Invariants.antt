use Rattle.std.proofs.Common.{◌≡◌, length}
use Rattle.capture_dumps.specs.Base.{is_number}
use Rattle.capture_dumps.proofs.base.Base.writes.Given as goal

abbrev pub invariant-digits : goal.invariant-digits
invariant-digits l = is_number l.base l.fn.digits l.fn.number ≡ is_number l.base l.rest l.left

abbrev pub decreases-digits : goal.decreases-digits
decreases-digits l = length l.rest
