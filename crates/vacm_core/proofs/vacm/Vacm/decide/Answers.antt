use Rattle.vacm_core.proofs.vacm.Vacm.decide.Goals as goal

pub returns-clause-answer : goal.returns-clause-answer
returns-clause-answer c = rw (← c.self.view_is) c.decide_over.ensures.answer

pub returns-clause-rows : goal.returns-clause-rows
returns-clause-rows c = rw (← c.self.view_is) c.decide_over.ensures.rows
