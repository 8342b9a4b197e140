use Rattle.std.proofs.Common.{rules}
use Rattle.snmp_msg.specs.Pdu.{pdu_of}
use Rattle.diagnose_text.proofs.line.Line.message_first.Goals as goal

pub returns-clause-request_id : goal.returns-clause-request_id
returns-clause-request_id c = (pdu_of c.pdu.result, c.pdu.ensures.is_pdu, search rules)
