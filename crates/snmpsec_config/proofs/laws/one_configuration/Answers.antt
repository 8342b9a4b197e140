use Rattle.snmpsec_config.proofs.Unique.{one_users, one_rows}
use Rattle.snmpsec_config.proofs.Unrefused.{unrefused}
use Rattle.snmpsec_config.proofs.laws.one_configuration.Goals as goal

pub returns-clause-users : goal.returns-clause-users
returns-clause-users c = one_users

pub returns-clause-rows : goal.returns-clause-rows
returns-clause-rows c = one_rows

pub returns-clause-unrefused : goal.returns-clause-unrefused
returns-clause-unrefused c = unrefused
