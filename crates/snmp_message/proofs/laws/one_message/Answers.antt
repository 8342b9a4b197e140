use Rattle.snmp_message.proofs.Outers.{one_outer, not_both}
use Rattle.snmp_message.proofs.laws.one_message.Goals as goal

pub returns-clause-one : goal.returns-clause-one
returns-clause-one c = one_outer

pub returns-clause-version : goal.returns-clause-version
returns-clause-version c = not_both
