use Rattle.std.proofs.Common.{◌≡◌, ◌++◌, List, map}
use Rattle.snmp_msg.specs.Variables.{Variable, variable_of}
use Rattle.snmp_walk.proofs.Fronts.{RowUpto}
use Rattle.snmp_walk.proofs.front.push_row.Given as goal

abbrev pub invariant-loop-column : goal.invariant-loop-column
invariant-loop-column l = record {
  row : List Variable;
  said : map variable_of l.bindings.items ≡ map variable_of l.initial.bindings.items ++ row;
  upto : RowUpto l.columns l.repetition l.column-index row;
}
