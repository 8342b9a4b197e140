use Rattle.std.proofs.Common.{arith}
use Rattle.snmp_msg.proofs.Pdus.{pdu_text-is}
use Rattle.snmp_msg.proofs.Variables.{variables_text-is}
use Rattle.snmp_msg.proofs.laws.pdu_written_again.Goals as goal

pub returns-clause-pdu : goal.returns-clause-pdu
returns-clause-pdu c = pdu_text-is

pub returns-clause-list : goal.returns-clause-list
returns-clause-list c = λ vs fit size. variables_text-is vs fit (omega arith)
