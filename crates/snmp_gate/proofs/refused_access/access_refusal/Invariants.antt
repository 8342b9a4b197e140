use Rattle.std.proofs.Common.{take}
use Rattle.std.specs.Prelude.{All}
use Rattle.snmp_gate.specs.Access.{IsGranted}
use Rattle.snmp_gate.proofs.refused_access.access_refusal.Given as goal

abbrev pub invariant-loop-place : goal.invariant-loop-place
invariant-loop-place l = All (IsGranted l.tag) (take l.place l.answers)
