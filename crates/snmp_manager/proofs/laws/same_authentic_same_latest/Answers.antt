use Rattle.snmp_manager.proofs.Learned.{same_latest}
use Rattle.snmp_manager.proofs.laws.same_authentic_same_latest.Goals as goal

pub returns : goal.returns
returns c = same_latest
