use Rattle.gateway_laws.proofs.InTurn.{bulk_true}
use Rattle.gateway_laws.proofs.laws.a_bulk_answer_in_turn.Goals as goal

pub returns : goal.returns
returns c device names single again most whole vs rest within pairs bulk is = bulk_true device names single again most whole vs rest within pairs bulk is
