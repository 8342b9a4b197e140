use Rattle.std.proofs.Common.{◌≡◌, ◌++◌, map}
use Rattle.snmp_msg.specs.Variables.{bound_variable, variables_of, variables_left}
use Rattle.snmp_listener.proofs.acknowledgement.bindings_in.Given as goal

abbrev pub invariant-loop-binding : goal.invariant-loop-binding
invariant-loop-binding l = record {
  ready : (goal.iterator-loop-binding).can_next l.binding-iterator;
  ends : (goal.iterator-loop-binding).is_finite l.binding-iterator;
  joined : map bound_variable l.bindings.items ++ variables_left l.binding-iterator ≡ variables_of l.pdu.list.now;
}
