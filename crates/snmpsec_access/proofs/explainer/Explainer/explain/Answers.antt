use Rattle.std.proofs.Common.{subst}
use Rattle.vacm_core.specs.Allowed.{Allowed}
use Rattle.vacm_core.specs.Steps.{requester_of}
use Rattle.snmpsec_access.specs.Explaining.{Explaining}
use Rattle.snmpsec_access.proofs.explainer.Explainer.explain.Goals as goal

pub returns-clause-answer : goal.returns-clause-answer
returns-clause-answer c =
    let asked = c.args.asking.now in
    subst (λ (e : Explaining). Allowed e.tables (requester_of asked) asked.view asked.variable.now c.explain.result.answer) c.self.view_is
    (c.self.invariant.answers (requester_of asked) asked.view asked.variable.now c.explain.result.answer c.explain.ensures.answer)
