use Rattle.std.proofs.Common.{◌∙◌}
use Rattle.snmp_forward.proofs.InformKeeping.{keeps_all, keeps_given_up, keeps_others}
use Rattle.snmp_forward.proofs.informs.forget.Goals as goal

pub returns-in-Some-clause-keeps : goal.returns-in-Some-clause-keeps
returns-in-Some-clause-keeps c = keeps_given_up c.args.requests.now _ c.in-Some.token c.give_up.result c.give_up.ensures

pub returns-in-Some-clause-others : goal.returns-in-Some-clause-others
returns-in-Some-clause-others c = λ t r differs. keeps_others c.args.requests.now _ c.in-Some.token c.give_up.result c.give_up.ensures t r (λ same. differs (c.in-Some.is ∙ same))

pub returns-in_default-clause-keeps : goal.returns-in_default-clause-keeps
returns-in_default-clause-keeps c = keeps_all c.args.requests.now
