use Rattle.snmp_msg.proofs.Canonicals.{one_canonical, canonical_again}
use Rattle.snmp_msg.proofs.laws.canonical_again.Goals as goal

pub returns-clause-one : goal.returns-clause-one
returns-clause-one c = one_canonical

pub returns-clause-again : goal.returns-clause-again
returns-clause-again c = canonical_again

pub returns-clause-fixed : goal.returns-clause-fixed
returns-clause-fixed c = λ w c1 d h size k. one_canonical c1 d c1 k (canonical_again w c1 h size)
