use Rattle.std.proofs.Common.{refl, rules, Err}
use Rattle.snmp_message.specs.declared.refusal.Refusal.TheVariants.{OutOfMemory}
use Rattle.snmp_handles.specs.declared.fault.CallFault.TheVariants.{Refused}
use Rattle.snmp_c.proofs.listener.proved_listener_new.Goals as goal

pub returns-clause-made : goal.returns-clause-made
returns-clause-made c =
    let made = c.in-Ok.ensures in
    (Err (Refused OutOfMemory), search rules, ((made.engine, (made.least, made.is_least)), refl))
