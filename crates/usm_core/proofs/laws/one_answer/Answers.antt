use Rattle.usm_core.proofs.Determined.{answer_one}
use Rattle.usm_core.proofs.laws.one_answer.Goals as goal

pub returns : goal.returns
returns c = answer_one c.one_message.ensures.one c.one_cut.ensures.one
