use Rattle.std.proofs.Common.{◌≡◌, ◌<◌, ◌≤◌, ℕ, length, take}
use Rattle.snmp_walk.specs.Dialogue.{asks_of}
use Rattle.snmp_walk.specs.Failure.{IsAskedAt}
use Rattle.snmp_walk.proofs.failure.column_at.Given as goal

abbrev pub invariant-loop-number : goal.invariant-loop-number
invariant-loop-number l = record {
  counted : l.asked ≡ length (asks_of (take l.number l.columns));
  few : l.asked ≤ l.number;
  none : (k : ℕ) → k < l.number → ¬ IsAskedAt l.columns l.index k;
}
