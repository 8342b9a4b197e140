use Rattle.std.proofs.Common.{All, take}
use Rattle.snmp_forward.specs.WaitingInforms.{IsAskedAs}
use Rattle.snmp_forward.specs.declared.waiting_inform.WaitingInform.{WaitingInform}
use Rattle.snmp_forward.proofs.waiting_inform.is_unasked.Given as goal

abbrev pub invariant-loop-waiting : goal.invariant-loop-waiting
invariant-loop-waiting l = All (λ (w : WaitingInform). ¬ IsAskedAs l.receiver l.id w) (take l.waiting-index l.list)
