use Rattle.std.proofs.Common.{◌≤◌, ◌+◌, length}
use Rattle.snmp_msg.specs.Variables.{variables_of, variables_left}
use Rattle.snmp_responder.specs.Code.{seen_by}
use Rattle.snmp_gate.proofs.Counts.{CountsOn}
use Rattle.snmp_gate.proofs.hidden.count_hidden.Given as goal

abbrev pub invariant-loop-binding : goal.invariant-loop-binding
invariant-loop-binding l = record {
  ready : (goal.iterator-loop-binding).can_next l.binding-iterator;
  ends : (goal.iterator-loop-binding).is_finite l.binding-iterator;
  counts : CountsOn (seen_by l.viewer) (variables_of l.answer.list.now) l.hidden (variables_left l.binding-iterator);
  few : l.hidden + length (variables_left l.binding-iterator) ≤ length l.answer.list.now;
}
