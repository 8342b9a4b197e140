use Rattle.snmp_forward.proofs.Exchanges.{apart, tried_at_most}
use Rattle.snmp_forward.proofs.exchange_laws.an_inform_is_sent_within_its_tries.Goals as goal

pub returns-clause-tries : goal.returns-clause-tries
returns-clause-tries c limits steps first last m anew run = tried_at_most limits steps first last m anew run

pub returns-clause-apart : goal.returns-clause-apart
returns-clause-apart c limits before between first last m n then now waits run = apart limits before between first last m n then now waits run
