use Rattle.snmp_incoming.specs.Outcome.{as_manager}
use Rattle.snmp_agent.specs.Responses.{response}
use Rattle.snmp_agent.proofs.response_laws.response_is_accepted.Goals as goal

pub returns : goal.returns
returns c = λ senders users held now engine own g s p status index vs salt text fits same seals.
    c.spoken_is_accepted.ensures (as_manager held) senders users now (response engine own g s p status index vs salt) text fits fits.engine same tt seals
