use Rattle.snmp_gate.specs.History.{IsCauseFor, IsToldAgain, told_in}
use Rattle.snmp_gate.proofs.Through.{done_so, tells_of_set}
use Rattle.snmp_gate.proofs.laws.a_set_is_told_as_its_device_answered.Goals as goal

pub returns-clause-asked : goal.returns-clause-asked
returns-clause-asked c agent devices before number message by answer q lawful asks set was =
    tells_of_set agent.tables q number before lawful.0.mediated.1.0 (IsCauseFor agent.engine agent.tables devices before number q) set was by message.kept answer (lawful.0.mediated.1.2 q asks)

pub returns-clause-done : goal.returns-clause-done
returns-clause-done c agent devices before number message by answer q says lawful asks set is done =
    done_so agent.tables q (told_in number before) lawful.0.mediated.1.0 (IsCauseFor agent.engine agent.tables devices before number q) by message.kept answer says set is done (IsToldAgain before number message) lawful.0.mediated.1.1 (lawful.0.mediated.1.2 q asks)
