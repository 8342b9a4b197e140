use Rattle.snmp_gate.specs.History.{IsCauseFor, told_in}
use Rattle.snmp_gate.proofs.Through.{reports_so}
use Rattle.snmp_gate.proofs.laws.a_report_has_its_cause.Goals as goal

pub returns : goal.returns
returns c agent devices before number message by answer q lawful asks none =
    reports_so agent.tables q (told_in number before) lawful.0.mediated.1.0 (IsCauseFor agent.engine agent.tables devices before number q) by message.kept answer none (lawful.0.mediated.1.2 q asks)
