use Rattle.snmp_manager.proofs.Pieces.{pieces_joined}
use Rattle.snmp_manager.proofs.laws.pieces_are_joined.Goals as goal

pub returns : goal.returns
returns c = pieces_joined
