use Rattle.std.proofs.Common.{◌≡◌, ◌<◌, ◌≤◌, ℕ, take}
use Rattle.snmp_walk.specs.BulkAsk.{asked_of}
use Rattle.snmp_walk.specs.BulkAnswered.{IsBulkAskedAt}
use Rattle.snmp_walk.proofs.bulk_take.column_at.Given as goal

abbrev pub invariant-loop-number : goal.invariant-loop-number
invariant-loop-number l = record {
  counted : l.asked ≡ asked_of (take l.number l.columns);
  few : l.asked ≤ l.number;
  none : (k : ℕ) → k < l.number → ¬ IsBulkAskedAt l.columns l.answer.third k;
}
