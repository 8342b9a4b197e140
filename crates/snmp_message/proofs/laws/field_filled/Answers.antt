use Rattle.snmp_message.proofs.Filled.{filled, same_message}
use Rattle.snmp_message.proofs.laws.field_filled.Goals as goal

pub returns-clause-filled : goal.returns-clause-filled
returns-clause-filled c = filled

pub returns-clause-size : goal.returns-clause-size
returns-clause-size c = same_message
