use Rattle.snmp_outgoing.specs.Speaks.{spoken, spoken_contexts}
use Rattle.snmp_outgoing.proofs.Spoken.{is_for}
use Rattle.snmp_outgoing.proofs.laws.spoken_is_accepted.Goals as goal

pub returns : goal.returns
returns c = λ taker senders users now s text fits engine same runs seals.
    c.sealed_is_accepted.ensures taker senders users now (spoken s) (spoken_contexts s) s.pdu text
    (is_for c.written_again.ensures.scoped c.pdu_written_again.ensures.pdu c.pdu_written_again.ensures.list c.sealed_size.ensures.least taker senders users s text fits engine same seals) runs seals
