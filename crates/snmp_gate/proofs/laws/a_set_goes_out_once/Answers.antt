use Rattle.std.proofs.Common.{[], arith}
use Rattle.snmp_gate.proofs.Outcomes.{outcomes_told}
use Rattle.snmp_gate.proofs.SetMemory.{few_remembered, new_once}
use Rattle.snmp_gate.proofs.laws.a_set_goes_out_once.Goals as goal

pub returns-clause-once : goal.returns-clause-once
returns-clause-once c digest from steps last run comes = new_once digest from steps 0 [] last run comes

pub returns-clause-few : goal.returns-clause-few
returns-clause-few c steps last run = few_remembered steps 0 [] last (omega arith) run

pub returns-clause-outcomes : goal.returns-clause-outcomes
returns-clause-outcomes c steps last run = outcomes_told steps last run
