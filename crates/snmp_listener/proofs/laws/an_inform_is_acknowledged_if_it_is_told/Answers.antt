use Rattle.snmp_listener.proofs.Telling.{acknowledged_run}
use Rattle.snmp_listener.proofs.laws.an_inform_is_acknowledged_if_it_is_told.Goals as goal

pub returns : goal.returns
returns c since first old last events now from w salt what text none run on took is = acknowledged_run since first old last events now from w salt what text none run on took is
