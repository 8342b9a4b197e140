use Rattle.std.proofs.Common.{refl}
use Rattle.snmp_manager.proofs.Takes.{told}
use Rattle.snmp_manager.proofs.manager.Manager.take_one.Goals as goal

pub returns-else-is_memory-clause-outcome : goal.returns-else-is_memory-clause-outcome
returns-else-is_memory-clause-outcome c = told _ c.take.new.self _ _ c.in-Err.fault _ refl c.if-is_memory.ensures c.in-Err.ensures.takes
