use Rattle.std.proofs.Common.{◌≡◌}
use Rattle.usm_core.proofs.Same.{AreSameBelow}
use Rattle.usm_core.proofs.digest.are_same.Given as goal

-- no octet before k differs, exactly where the difference is 0
abbrev pub invariant-loop-k : goal.invariant-loop-k
invariant-loop-k l = (l.difference ≡ 0 → AreSameBelow l.a l.b l.k) × (l.a ≡ l.b → l.difference ≡ 0)
