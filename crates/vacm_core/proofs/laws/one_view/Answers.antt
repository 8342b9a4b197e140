use Rattle.vacm_core.proofs.Uniqueness.{one_view}
use Rattle.vacm_core.proofs.laws.one_view.Goals as goal

pub returns : goal.returns
returns c = one_view
