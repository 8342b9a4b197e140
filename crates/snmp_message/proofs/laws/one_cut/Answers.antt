use Rattle.snmp_message.proofs.Cuts.{cut_of, cut_places}
use Rattle.snmp_message.proofs.Securities.{one_security}
use Rattle.snmp_message.proofs.laws.one_cut.Goals as goal

pub returns-clause-one : goal.returns-clause-one
returns-clause-one c = one_security

pub returns-clause-cut : goal.returns-clause-cut
returns-clause-cut c = cut_of

pub returns-clause-places : goal.returns-clause-places
returns-clause-places c = cut_places
