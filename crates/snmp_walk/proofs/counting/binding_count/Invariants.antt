use Rattle.std.proofs.Common.{◌≡◌, ◌-◌, ◌^◌, length, min, ℕ, ◌+◌}
use Rattle.snmp_msg.specs.Variables.{variables_left, variables_of}
use Rattle.snmp_walk.proofs.counting.binding_count.Given as goal

abbrev pub invariant-loop-binding : goal.invariant-loop-binding
invariant-loop-binding l = record {
  ready : (goal.iterator-loop-binding).can_next l._binding-iterator;
  ends : (goal.iterator-loop-binding).is_finite l._binding-iterator;
  done : ℕ;
  joined : done + length (variables_left l._binding-iterator) ≡ length (variables_of l.pdu.list.now);
  counted : l.count ≡ min done (2 ^ 64 - 1);
}
