use Rattle.std.proofs.Common.{◌≡◌, [], take}
use Rattle.std.specs.Prelude.{MatchOption}
use Rattle.snmp_forward.specs.WaitingInforms.{IsFirstDue}
use Rattle.snmp_forward.proofs.waiting_inform.next_due.Given as goal

abbrev pub invariant-loop-waiting : goal.invariant-loop-waiting
invariant-loop-waiting l = MatchOption l.due (take l.waiting-index l.list ≡ []) (IsFirstDue (take l.waiting-index l.list))
