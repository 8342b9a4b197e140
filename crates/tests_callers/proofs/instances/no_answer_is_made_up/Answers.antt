use Rattle.tests_callers.proofs.Impossible.{none_was_asked}
use Rattle.tests_callers.proofs.instances.no_answer_is_made_up.Goals as goal

pub returns : goal.returns
returns c g contexts p told last = none_was_asked g contexts p told last
