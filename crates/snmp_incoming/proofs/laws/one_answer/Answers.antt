use Rattle.snmp_incoming.proofs.Determined.{outcome_one}
use Rattle.snmp_incoming.proofs.laws.one_answer.Goals as goal

pub returns : goal.returns
returns c = outcome_one c.one_content.ensures.front c.one_pdu.ensures.pdu c.one_answer.ensures
