use Rattle.snmp_incoming.proofs.Determined.{text_one}
use Rattle.snmp_incoming.proofs.laws.one_text.Goals as goal

pub returns : goal.returns
returns c = text_one
