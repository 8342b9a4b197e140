use Rattle.snmp_message.proofs.Writes.{message_text-is}
use Rattle.snmp_message.proofs.Filled.{security_text-is}
use Rattle.snmp_message.proofs.Scopeds.{scoped_text-is}
use Rattle.snmp_message.proofs.laws.written_again.Goals as goal

pub returns-clause-message : goal.returns-clause-message
returns-clause-message c = message_text-is

pub returns-clause-security : goal.returns-clause-security
returns-clause-security c = security_text-is

pub returns-clause-scoped : goal.returns-clause-scoped
returns-clause-scoped c = scoped_text-is
