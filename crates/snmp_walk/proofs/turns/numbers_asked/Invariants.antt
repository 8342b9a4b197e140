use Rattle.std.proofs.Common.{◌≡◌, ◌-◌, ◌++◌, length, drop}
use Rattle.snmp_walk.specs.Turns.{AreAsked, turns_from}
use Rattle.snmp_walk.proofs.turns.numbers_asked.Given as goal

abbrev pub invariant-loop-number : goal.invariant-loop-number
invariant-loop-number l = record {
  numbers : turns_from l.from (drop l.from l.columns) ≡ l.numbers.items ++ turns_from l.number (drop l.number l.columns);
  asked : AreAsked l.columns l.numbers.items;
}

abbrev pub decreases-loop-number : goal.decreases-loop-number
decreases-loop-number l = length l.columns - l.number
