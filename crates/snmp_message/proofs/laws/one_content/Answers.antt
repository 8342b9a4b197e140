use Rattle.snmp_message.proofs.Scopeds.{not_both, same_scoped, one_front}
use Rattle.snmp_message.proofs.laws.one_content.Goals as goal

pub returns-clause-kind : goal.returns-clause-kind
returns-clause-kind c = not_both

pub returns-clause-scoped : goal.returns-clause-scoped
returns-clause-scoped c = same_scoped

pub returns-clause-front : goal.returns-clause-front
returns-clause-front c = one_front
