use Rattle.std.specs.Prelude.{length}
use Rattle.snmp_gate.proofs.Short.{short_answer, short_report}
use Rattle.snmp_gate.proofs.laws.an_answer_without_authentication_is_short.Goals as goal

pub returns-clause-answered : goal.returns-clause-answered
returns-clause-answered c agent devices limits before number message by answer lawful keeps must = short_answer agent devices limits before number message by answer lawful keeps must

pub returns-clause-refused : goal.returns-clause-refused
returns-clause-refused c old new seconds datagram r refused = short_report r.report (length datagram) refused.2
