use Rattle.snmp_gate.specs.History.{IsCauseFor, told_in}
use Rattle.snmp_gate.proofs.Through.{tells_device}
use Rattle.snmp_gate.proofs.laws.a_client_sees_the_device.Goals as goal

pub returns : goal.returns
returns c agent devices before number message by answer device q lawful asks plain truly =
    tells_device device plain agent.tables q (told_in number before) lawful.0.mediated.1.0 (IsCauseFor agent.engine agent.tables devices before number q) truly by message.kept answer (lawful.0.mediated.1.2 q asks)
