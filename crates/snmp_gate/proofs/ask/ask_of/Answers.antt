use Rattle.std.proofs.Common.{arith}
use Rattle.snmp_gate.proofs.ask.ask_of.Goals as goal

pub returns-else-len-device : goal.returns-else-len-device
returns-else-len-device c tables q told asked stands = ((rw c.in-Ok-Some.field-0-is at c.in-Ok-Some.ensures) tables q told asked stands, omega (arith, c.if-len-device.false, c.len.ensures))
