use Rattle.std.proofs.Common.{◌≡◌, ℕ, ◌<◌, true, get_or}
use Rattle.std.specs.Char.{is_ascii_hexdigit}
use Rattle.snmpsec_io.proofs.digits.digits_in_front.Given as goal

abbrev pub invariant-loop-count : goal.invariant-loop-count
invariant-loop-count l = (k : ℕ) → k < l.count → is_ascii_hexdigit (get_or l.octets k 0) ≡ true
