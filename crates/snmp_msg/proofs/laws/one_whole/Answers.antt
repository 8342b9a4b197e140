use Rattle.snmp_msg.proofs.Canonicals.{one_whole}
use Rattle.snmp_msg.proofs.laws.one_whole.Goals as goal

pub returns : goal.returns
returns c = one_whole
