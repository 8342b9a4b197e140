use Rattle.std.proofs.Common.{refl}
use Rattle.snmp_manager.proofs.Learned.{runs_taken, taken_behind}
use Rattle.snmp_manager.proofs.laws.takes_are_joined.Goals as goal

pub returns-clause-take : goal.returns-clause-take
returns-clause-take c = λ a b now w answer takes. (b, (answer, takes), refl)

pub returns-clause-take_one : goal.returns-clause-take_one
returns-clause-take_one c = λ a b now w outcome takes. (b, (takes.0, takes.2), refl)

pub returns-clause-run : goal.returns-clause-run
returns-clause-run c = λ a b ts outcomes runs. runs_taken a b ts outcomes runs

pub returns-clause-joined : goal.returns-clause-joined
returns-clause-joined c = taken_behind
