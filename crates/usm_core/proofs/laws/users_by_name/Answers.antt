use Rattle.usm_core.proofs.Determined.{authentic_by_name}
use Rattle.usm_core.proofs.laws.users_by_name.Goals as goal

pub returns : goal.returns
returns c = authentic_by_name c.one_message.ensures.one c.one_cut.ensures.one
