use Rattle.std.proofs.Common.{[], arith}
use Rattle.std.proofs.lemmas.List.Elements.{All-nil}
use Rattle.snmp_gate.specs.GroupRuns.{AsksOneThing, IsFew}
use Rattle.snmp_gate.proofs.Questions.{run_one, run_own}
use Rattle.snmp_gate.proofs.laws.a_request_is_one_question.Goals as goal

pub returns-clause-one : goal.returns-clause-one
returns-clause-one g c question most most_messages steps last run = run_one question most most_messages 0 [] steps last (All-nil (AsksOneThing question)) run

pub returns-clause-own : goal.returns-clause-own
returns-clause-own g c question most most_messages steps last run = run_own question most most_messages 0 [] steps last (All-nil (IsFew most_messages)) (λ i j d below within. absurd (omega arith)) run
