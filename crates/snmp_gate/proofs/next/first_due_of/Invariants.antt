use Rattle.std.proofs.Common.{◌≡◌, [], take}
use Rattle.std.specs.Prelude.{MatchOption}
use Rattle.snmp_gate.specs.Due.{IsFirstDue}
use Rattle.snmp_gate.proofs.next.first_due_of.Given as goal

abbrev pub invariant-loop-request : goal.invariant-loop-request
invariant-loop-request l = MatchOption l.due (take l.request-index l.requests ≡ []) (IsFirstDue l.limits (take l.request-index l.requests))
