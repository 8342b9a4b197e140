use Rattle.snmp_msg.proofs.Pdus.{one_pdu}
use Rattle.snmp_msg.proofs.Variables.{one_list}
use Rattle.snmp_msg.proofs.laws.one_pdu.Goals as goal

pub returns-clause-pdu : goal.returns-clause-pdu
returns-clause-pdu c = one_pdu

pub returns-clause-list : goal.returns-clause-list
returns-clause-list c = λ octets vs ws h k. one_list vs ws octets h k
