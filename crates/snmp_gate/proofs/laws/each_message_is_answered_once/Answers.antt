use Rattle.std.proofs.Common.{[], arith}
use Rattle.std.proofs.lemmas.List.Elements.{All-nil}
use Rattle.snmp_gate.specs.GroupRuns.{IsFew}
use Rattle.snmp_gate.proofs.Held.{run_held}
use Rattle.snmp_gate.proofs.Questions.{own_numbers, run_few, run_few_messages}
use Rattle.snmp_gate.proofs.laws.each_message_is_answered_once.Goals as goal

pub returns-clause-once : goal.returns-clause-once
returns-clause-once g c question most most_messages test steps last run = omega (arith, run_held question most most_messages test 0 [] steps last run)

pub returns-clause-numbers : goal.returns-clause-numbers
returns-clause-numbers g c question most most_messages steps last run = own_numbers question most most_messages steps last run

pub returns-clause-few_requests : goal.returns-clause-few_requests
returns-clause-few_requests g c question most most_messages steps last run = run_few question most most_messages 0 [] steps last (omega arith) run

pub returns-clause-few_messages : goal.returns-clause-few_messages
returns-clause-few_messages g c question most most_messages steps last run = run_few_messages question most most_messages 0 [] steps last (All-nil (IsFew most_messages)) run
