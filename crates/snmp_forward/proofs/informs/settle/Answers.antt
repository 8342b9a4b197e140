use Rattle.snmp_forward.proofs.InformKeeping.{keeps_all, keeps_given_up}
use Rattle.snmp_forward.proofs.informs.settle.Goals as goal

pub returns-then-ne-clause-keeps : goal.returns-then-ne-clause-keeps
returns-then-ne-clause-keeps c = keeps_given_up c.args.requests.now _ c.args.token c.give_up.result c.give_up.ensures

pub returns-else-ne-clause-keeps : goal.returns-else-ne-clause-keeps
returns-else-ne-clause-keeps c = keeps_all c.args.requests.now
