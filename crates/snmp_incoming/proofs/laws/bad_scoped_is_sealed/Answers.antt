use Rattle.snmp_incoming.proofs.Determined.{outcome_sealed}
use Rattle.snmp_incoming.proofs.laws.bad_scoped_is_sealed.Goals as goal

pub returns : goal.returns
returns c = λ taker users now w is. outcome_sealed c.verified_was_read.ensures.accepted c.plain_from_data.ensures.scoped taker users now w is
