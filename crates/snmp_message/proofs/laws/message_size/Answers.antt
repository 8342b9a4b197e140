use Rattle.snmp_message.proofs.Lengths.{message_least, message_most}
use Rattle.snmp_message.proofs.laws.message_size.Goals as goal

pub returns-clause-least : goal.returns-clause-least
returns-clause-least c = message_least

pub returns-clause-most : goal.returns-clause-most
returns-clause-most c = message_most
