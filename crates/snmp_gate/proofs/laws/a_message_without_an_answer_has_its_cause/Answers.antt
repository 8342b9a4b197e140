use Rattle.snmp_gate.proofs.Leaving.{reported}
use Rattle.snmp_gate.proofs.laws.a_message_without_an_answer_has_its_cause.Goals as goal

pub returns-clause-cause : goal.returns-clause-cause
returns-clause-cause c limits devices before number message by why q keeps asks = keeps.1 q asks

pub returns-clause-reported : goal.returns-clause-reported
returns-clause-reported c limits devices before number message by q keeps asks no_set on = reported limits devices before number q message by no_set on (keeps.1 q asks)
