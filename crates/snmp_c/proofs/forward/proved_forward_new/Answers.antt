use Rattle.std.proofs.Common.{refl, rules, Err}
use Rattle.snmp_message.specs.declared.refusal.Refusal.TheVariants.{OutOfMemory}
use Rattle.snmp_handles.specs.declared.fault.CallFault.TheVariants.{Refused}
use Rattle.snmp_c.proofs.forward.proved_forward_new.Goals as goal

pub returns-clause-made : goal.returns-clause-made
returns-clause-made c = (Err (Refused OutOfMemory), search rules, (c.in-Ok.ensures.in_range, refl))
