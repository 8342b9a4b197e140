use Rattle.tests_callers.proofs.Impossible.{none_ends_twice, none_is_answered, none_is_informed}
use Rattle.tests_callers.proofs.instances.no_inform_is_made_up.Goals as goal

pub returns-clause-asks : goal.returns-clause-asks
returns-clause-asks c s number receiver now message held by pending datagram =
    none_is_informed s number receiver now message held by pending datagram

pub returns-clause-answers : goal.returns-clause-answers
returns-clause-answers c s number what heard = none_is_answered s number what heard

pub returns-clause-ends : goal.returns-clause-ends
returns-clause-ends c s number receiver now later why again inform =
    none_ends_twice s number receiver now later why again inform
