use Rattle.tests_callers.proofs.Impossible.{none_is_notified_twice}
use Rattle.tests_callers.proofs.instances.no_receiver_is_notified_twice.Goals as goal

pub returns : goal.returns
returns c agent devices receivers number device receiver by again datagram first second =
    none_is_notified_twice agent devices receivers number device receiver by again datagram first second
