use Rattle.std.proofs.Common.{All, take}
use Rattle.snmp_forward.specs.Receivers.{IsShort}
use Rattle.snmp_forward.proofs.receivers.first_long.Given as goal

abbrev pub invariant-loop-number : goal.invariant-loop-number
invariant-loop-number l = All IsShort (take l.number l.receivers)
