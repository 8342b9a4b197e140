use Rattle.vacm_core.specs.Tables.{tables_of}
use Rattle.tests_callers.proofs.agents.same_answer.Goals as goal

pub returns : goal.returns
returns c =
    let law = c.order_is_free.ensures in
    let one = tables_of c.args.one.now in
    let other = tables_of c.args.other.now in
    law.one one other (law.sound one c.in-Ok.ensures.sound) c.requires.same _ _ _ _ _
    (c.in-Ok.ensures.decides _ _ _ _ c.is_access_allowed-answer.ensures.answer)
    (c.in-Ok-load.ensures.decides _ _ _ _ c.is_access_allowed-again.ensures.answer)
