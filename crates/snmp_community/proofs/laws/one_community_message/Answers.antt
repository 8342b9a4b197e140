use Rattle.snmp_community.proofs.Messages.{one_message, not_both, outer_is_other}
use Rattle.snmp_community.proofs.laws.one_community_message.Goals as goal

pub returns-clause-one : goal.returns-clause-one
returns-clause-one c = one_message

pub returns-clause-version : goal.returns-clause-version
returns-clause-version c = not_both

pub returns-clause-other : goal.returns-clause-other
returns-clause-other c = outer_is_other
