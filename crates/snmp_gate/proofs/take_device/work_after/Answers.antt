use Rattle.std.proofs.Common.{arith, refl}
use Rattle.snmp_gate.proofs.take_device.work_after.Goals as goal

pub returns-in-Asks-clause-after : goal.returns-in-Asks-clause-after
returns-in-Asks-clause-after c tables q told viewer ends stands = (c.in-Asks.ensures.stands tables q told viewer ends stands, refl, refl, c.in-Asks.ensures.no_set, c.with_answer.ensures.began, c.in-Asks.ensures.repeats)

pub returns-in-Asks-clause-device : goal.returns-in-Asks-clause-device
returns-in-Asks-clause-device c device = omega arith

pub returns-in-Ends-clause-device : goal.returns-in-Ends-clause-device
returns-in-Ends-clause-device c device = omega arith
