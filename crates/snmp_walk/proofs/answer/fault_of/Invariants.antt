use Rattle.std.proofs.Common.{◌≡◌, ◌≤◌, ◌++◌, ℕ, List, drop, length}
use Rattle.snmp_msg.specs.Variables.{Variable, variables_of, variables_left}
use Rattle.snmp_walk.specs.Dialogue.{AnswersAll, asks_of}
use Rattle.snmp_walk.specs.declared.operation.ReadOperation.{ReadOperation}
use Rattle.snmp_walk.proofs.answer.fault_of.Given as goal

abbrev pub invariant-loop-column : goal.invariant-loop-column
invariant-loop-column l = record {
  asks : List (ReadOperation × List ℕ);
  asks_are : asks_of l.columns ≡ asks ++ asks_of (drop l.column-index l.columns);
  done : List Variable;
  joined : variables_of l.answer.list.now ≡ done ++ variables_left l.left;
  number : l.number ≡ length done;
  few : length done ≤ l.column-index;
  answered : AnswersAll asks done;
}
