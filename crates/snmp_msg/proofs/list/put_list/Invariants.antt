use Rattle.std.proofs.Common.{◌≡◌, ◌++◌, ◌≤◌, length}
use Rattle.snmp_msg.specs.Variables.{AllFit, variables_of, variables_left, variables_text}
use Rattle.snmp_msg.proofs.list.put_list.Given as goal

abbrev pub invariant-loop-binding : goal.invariant-loop-binding
invariant-loop-binding l = record {
  ready : (goal.iterator-loop-binding).can_next l.binding-iterator;
  ends : (goal.iterator-loop-binding).is_finite l.binding-iterator;
  so_far : l.out.items ++ variables_text (variables_left l.binding-iterator) ≡ l.initial.out.items ++ variables_text (variables_of l.list);
  short : length (variables_text (variables_left l.binding-iterator)) ≤ 65507;
  fit : AllFit (variables_left l.binding-iterator);
}
