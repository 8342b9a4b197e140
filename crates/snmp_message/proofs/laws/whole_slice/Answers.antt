use Rattle.snmp_message.proofs.Cuts.{whole_slice}
use Rattle.snmp_message.proofs.laws.whole_slice.Goals as goal

pub returns : goal.returns
returns c = whole_slice
