use Rattle.std.proofs.Common.{◌≡◌, ◌≤◌, take}
use Rattle.snmp_walk.specs.BulkAsk.{asked_of}
use Rattle.snmp_walk.proofs.bulk_ask.count_asked.Given as goal

abbrev pub invariant-loop-column : goal.invariant-loop-column
invariant-loop-column l = record {
  counted : l.count ≡ asked_of (take l.column-index l.columns);
  few : l.count ≤ l.column-index;
}
