use Rattle.std.proofs.Common.{◌≡◌, ◌-◌, ◌≤◌, ◌++◌, List, map}
use Rattle.snmp_msg.specs.Variables.{Variable, variable_of}
use Rattle.snmp_walk.specs.Front.{AreKnown}
use Rattle.snmp_walk.proofs.front.push_repetitions.Given as goal

abbrev pub invariant-loop-repetition : goal.invariant-loop-repetition
invariant-loop-repetition l = record {
  upto : l.repetition ≤ l.most;
  done : List Variable;
  said : map variable_of l.bindings.items ≡ map variable_of l.initial.bindings.items ++ done;
  on : (rest : List Variable) → AreKnown l.columns (l.most - l.repetition) l.repetition rest → AreKnown l.columns l.most 0 (done ++ rest);
}

abbrev pub decreases-loop-repetition : goal.decreases-loop-repetition
decreases-loop-repetition l = l.most - l.repetition
