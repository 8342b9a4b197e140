use Rattle.std.proofs.Common.{take}
use Rattle.snmp_gate.specs.Devices.{HaveOwnContexts}
use Rattle.snmp_gate.proofs.devices.first_repeated.Given as goal

abbrev pub invariant-loop-number : goal.invariant-loop-number
invariant-loop-number l = HaveOwnContexts (take l.number l.devices)
