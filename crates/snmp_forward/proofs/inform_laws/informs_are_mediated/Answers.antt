use Rattle.snmp_forward.proofs.Mediation.{asks_mediated}
use Rattle.snmp_forward.proofs.inform_laws.informs_are_mediated.Goals as goal

pub returns : goal.returns
returns c tables devices receivers s before number receiver now held by pending datagram all ask = asks_mediated tables devices receivers s before number receiver now held by pending datagram all ask
