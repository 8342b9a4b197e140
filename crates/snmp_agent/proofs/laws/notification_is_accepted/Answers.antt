use Rattle.snmp_incoming.specs.Outcome.{as_manager}
use Rattle.snmp_agent.specs.Sent.{notification}
use Rattle.snmp_agent.proofs.laws.notification_is_accepted.Goals as goal

pub returns : goal.returns
returns c = λ senders users held now engine own id user level front vs salt text fits same seals.
    c.spoken_is_accepted.ensures (as_manager held) senders users now (notification engine own id user level front vs salt) text fits fits.engine same tt seals
