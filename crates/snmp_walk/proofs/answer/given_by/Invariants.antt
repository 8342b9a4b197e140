use Rattle.std.proofs.Common.{◌≡◌, ◌++◌, map}
use Rattle.snmp_msg.specs.Variables.{variables_of, variables_left}
use Rattle.snmp_walk.specs.Bindings.{given_says}
use Rattle.snmp_walk.proofs.answer.given_by.Given as goal

abbrev pub invariant-loop-binding : goal.invariant-loop-binding
invariant-loop-binding l = record {
  ready : (goal.iterator-loop-binding).can_next l.binding-iterator;
  ends : (goal.iterator-loop-binding).is_finite l.binding-iterator;
  joined : map given_says l.given.items ++ variables_left l.binding-iterator ≡ variables_of l.answer.list.now;
}
