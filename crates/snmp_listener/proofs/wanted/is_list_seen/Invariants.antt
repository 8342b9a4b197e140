use Rattle.std.proofs.Common.{◌≡◌, ◌++◌, All, List}
use Rattle.snmp_msg.specs.Variables.{Variable, variables_of, variables_left}
use Rattle.snmp_incoming.specs.Answers.{given_of}
use Rattle.snmp_listener.specs.Wanted.{notified_in}
use Rattle.snmp_listener.proofs.wanted.is_list_seen.Given as goal

abbrev pub invariant-loop-binding : goal.invariant-loop-binding
invariant-loop-binding l = record {
  ready : (goal.iterator-loop-binding).can_next l.binding-iterator;
  ends : (goal.iterator-loop-binding).is_finite l.binding-iterator;
  done : List Variable;
  joined : done ++ variables_left l.binding-iterator ≡ variables_of l.pdu.list.now;
  all : All (λ (v : Variable). notified_in l.tables (given_of l.taken) l.context v.name) done;
}
