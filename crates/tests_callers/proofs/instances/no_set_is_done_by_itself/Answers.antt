use Rattle.tests_callers.proofs.Impossible.{no_set_is_done}
use Rattle.tests_callers.proofs.instances.no_set_is_done_by_itself.Goals as goal

pub returns : goal.returns
returns c agent devices number now index datagram message by answer set first others tag asks some says =
    no_set_is_done agent devices number now index datagram message by answer set first others asks tag some says
