use Rattle.snmp_ber.proofs.Identifiers.{identifier-is, one_content, one_identifier}
use Rattle.snmp_ber.proofs.laws.one_identifier.Goals as goal

pub returns-clause-spelled : goal.returns-clause-spelled
returns-clause-spelled c = identifier-is

pub returns-clause-content : goal.returns-clause-content
returns-clause-content c = one_content

pub returns-clause-arcs : goal.returns-clause-arcs
returns-clause-arcs c = one_identifier
