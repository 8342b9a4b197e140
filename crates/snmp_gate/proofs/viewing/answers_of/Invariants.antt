use Rattle.std.proofs.Common.{◌≡◌, ◌++◌, List}
use Rattle.std.specs.List.{AllZip}
use Rattle.snmp_msg.specs.Variables.{Variable, variables_of, variables_left}
use Rattle.snmp_gate.specs.Messages.{IsAnswerFor}
use Rattle.snmp_gate.proofs.viewing.answers_of.Given as goal

abbrev pub invariant-loop-binding : goal.invariant-loop-binding
invariant-loop-binding l = record {
  ready : (goal.iterator-loop-binding).can_next l.binding-iterator;
  ends : (goal.iterator-loop-binding).is_finite l.binding-iterator;
  done : List Variable;
  joined : done ++ variables_left l.binding-iterator ≡ variables_of l.pdu.list.now;
  zip : AllZip (IsAnswerFor l.viewer l.view) done l.answers.items;
}
