use Rattle.snmp_gate.proofs.Running.{ended_in_turn}
use Rattle.snmp_gate.proofs.laws.messages_end_in_turn.Goals as goal

pub returns : goal.returns
returns c agent devices n history lawful = ended_in_turn agent devices n history lawful
