use Rattle.std.proofs.Common.{[], arith}
use Rattle.snmp_gate.proofs.AskSteps.{run_few, run_once, run_own}
use Rattle.snmp_gate.proofs.laws.an_answer_is_of_one_ask.Goals as goal

pub returns-clause-own : goal.returns-clause-own
returns-clause-own c at_once steps last run = run_own at_once steps [] last (λ i j d below within. absurd (omega arith)) run

pub returns-clause-few : goal.returns-clause-few
returns-clause-few c at_once steps last run = run_few at_once steps [] last (omega arith) run

pub returns-clause-once : goal.returns-clause-once
returns-clause-once c at_once id request steps last run = omega (arith, run_once at_once id request steps [] last run)
