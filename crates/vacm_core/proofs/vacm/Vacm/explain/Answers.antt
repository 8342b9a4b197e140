use Rattle.vacm_core.specs.Tables.{tables_of}
use Rattle.vacm_core.specs.Steps.{requester_of}
use Rattle.vacm_core.proofs.Invariance.{back_rows, Decides-same}
use Rattle.vacm_core.proofs.Parts.{one_row_each_of_same}
use Rattle.vacm_core.proofs.vacm.Vacm.explain.Goals as goal

pub context_step-requires-clause-one_each : goal.context_step-requires-clause-one_each
context_step-requires-clause-one_each c = one_row_each_of_same c.args.self.now (tables_of c.args.rows.now) (back_rows c.requires) c.decide-decided.ensures.one_row_each

pub context_step-requires-clause-decides : goal.context_step-requires-clause-decides
context_step-requires-clause-decides c =
    Decides-same (back_rows c.requires) (requester_of c.args.asking.now) c.args.asking.now.view c.args.asking.now.variable.now c.decide-decided.result c.decide-decided.ensures.rows
