use Rattle.snmpsec_output.proofs.Determined.{opening_one}
use Rattle.snmpsec_output.proofs.laws.one_opening.Goals as goal

pub returns : goal.returns
returns c = opening_one c.one_content.ensures.front c.one_pdu.ensures.pdu c.one_answer.ensures
