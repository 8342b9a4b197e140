use Rattle.snmp_listener.proofs.Counted.{counted_run}
use Rattle.snmp_listener.proofs.laws.what_is_dropped_is_counted.Goals as goal

pub returns : goal.returns
returns c since first last events why none run = counted_run why since first events last none run
