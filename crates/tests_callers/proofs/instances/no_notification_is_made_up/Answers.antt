use Rattle.tests_callers.proofs.Impossible.{nothing_is_forwarded}
use Rattle.tests_callers.proofs.instances.no_notification_is_made_up.Goals as goal

pub returns-clause-sent : goal.returns-clause-sent
returns-clause-sent c agent devices receivers number receiver by datagram =
    nothing_is_forwarded agent devices receivers number receiver by datagram

pub returns-clause-as_inform : goal.returns-clause-as_inform
returns-clause-as_inform c agent devices receivers number inform lawful = cc (lawful.0.turn.next.1)
