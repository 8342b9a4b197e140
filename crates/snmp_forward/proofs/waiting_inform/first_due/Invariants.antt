use Rattle.std.proofs.Common.{All, take}
use Rattle.snmp_forward.specs.WaitingInforms.{IsDue}
use Rattle.snmp_forward.specs.declared.waiting_inform.WaitingInform.{WaitingInform}
use Rattle.snmp_forward.proofs.waiting_inform.first_due.Given as goal

abbrev pub invariant-loop-place : goal.invariant-loop-place
invariant-loop-place l = All (λ (w : WaitingInform). ¬ IsDue l.now w) (take l.place l.list)
