use Rattle.vacm_core.proofs.Runs.{first_row}
use Rattle.vacm_core.specs.Place.{context_name, context_rank}
use Rattle.vacm_core.proofs.ask.context_row.Goals as goal

pub returns : goal.returns
returns c = first_row context_name context_rank c.args.context.now c.args.rows.now c.rows_of.result.now c.first.result c.rows_of.ensures.run c.first.ensures.item
