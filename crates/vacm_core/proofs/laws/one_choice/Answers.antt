use Rattle.vacm_core.proofs.Choice.{one_context}
use Rattle.vacm_core.proofs.laws.one_choice.Goals as goal

pub returns : goal.returns
returns c = one_context
