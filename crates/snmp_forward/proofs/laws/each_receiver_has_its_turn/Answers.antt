use Rattle.snmp_forward.proofs.Running.{once, turns}
use Rattle.snmp_forward.proofs.laws.each_receiver_has_its_turn.Goals as goal

pub returns-clause-turns : goal.returns-clause-turns
returns-clause-turns c agent devices receivers n history lawful = turns agent devices receivers n history lawful

pub returns-clause-once : goal.returns-clause-once
returns-clause-once c agent devices receivers n history lawful = once agent devices receivers n history lawful
