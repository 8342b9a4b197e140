use Rattle.tests_callers.proofs.Twins.{one_code}
use Rattle.tests_callers.proofs.keys.two_keys_one_code.Goals as goal

pub returns : goal.returns
returns c = one_code c.one_message.ensures.one c.one_cut.ensures.one c.one_cut.ensures.places
