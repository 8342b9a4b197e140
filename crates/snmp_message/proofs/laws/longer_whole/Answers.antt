use Rattle.snmp_message.proofs.Writes.{message_text-longer}
use Rattle.snmp_message.proofs.laws.longer_whole.Goals as goal

pub returns : goal.returns
returns c = message_text-longer
