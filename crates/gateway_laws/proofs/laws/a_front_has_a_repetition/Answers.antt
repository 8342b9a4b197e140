use Rattle.snmp_responder.specs.Code.{seen_by}
use Rattle.gateway_laws.proofs.BulkTrueRuns.{run_enough}
use Rattle.gateway_laws.proofs.Repetitions.{front_long}
use Rattle.gateway_laws.proofs.laws.a_front_has_a_repetition.Goals as goal

pub returns-clause-enough : goal.returns-clause-enough
returns-clause-enough c viewer device told asked steps first last is begin same some run enough not_gathered = run_enough device (seen_by viewer) is told asked steps first last begin same some run enough not_gathered

pub returns-clause-repetition : goal.returns-clause-repetition
returns-clause-repetition c non_repeaters most columns response some all front = front_long non_repeaters most columns response some all front
