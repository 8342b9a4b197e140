use Rattle.snmp_manager.proofs.Learned.{same_pairs}
use Rattle.snmp_manager.proofs.laws.same_authentic_same_pairs.Goals as goal

pub returns : goal.returns
returns c = same_pairs
