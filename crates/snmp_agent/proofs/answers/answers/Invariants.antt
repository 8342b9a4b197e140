use Rattle.std.proofs.Common.{◌≡◌, ◌++◌, List}
use Rattle.snmp_msg.specs.Variables.{Variable, variables_of, variables_left}
use Rattle.snmp_agent.specs.Decides.{question, AreAnswers}
use Rattle.snmp_agent.proofs.answers.answers.Given as goal

abbrev pub invariant-loop-binding : goal.invariant-loop-binding
invariant-loop-binding l = record {
  ready : (goal.iterator-loop-binding).can_next l.binding-iterator;
  ends : (goal.iterator-loop-binding).is_finite l.binding-iterator;
  done : List Variable;
  joined : done ++ variables_left l.binding-iterator ≡ variables_of l.pdu.list.now;
  zip : AreAnswers l.vacm (question l.taken.user.now l.taken.level l.context) l.view done l.answers.items;
}
