use Rattle.std.proofs.Common.{All, take}
use Rattle.snmp_forward.specs.WaitingInforms.{IsAsked}
use Rattle.snmp_forward.specs.declared.waiting_inform.WaitingInform.{WaitingInform}
use Rattle.snmp_forward.proofs.waiting_inform.place_of.Given as goal

abbrev pub invariant-loop-place : goal.invariant-loop-place
invariant-loop-place l = All (λ (w : WaitingInform). ¬ IsAsked l.receiver l.token w) (take l.place l.list)
