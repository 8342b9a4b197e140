use Rattle.std.proofs.Common.{subst, sym, ◌∙◌, List, slice_range}
use Rattle.vacm_core.specs.RowOrder.{IsRunOf}
use Rattle.vacm_core.proofs.Places.{no_run}
use Rattle.vacm_core.proofs.table.OrderedTable.rows_of.Goals as goal

pub returns-in_default-clause-run : goal.returns-in_default-clause-run
returns-in_default-clause-run g c = no_run g.R.NamedRow.name_of g.R.NamedRow.rank c.args.wanted.now c.args.self.now c.in_default.ensures

pub returns-clause-run : goal.returns-clause-run
returns-clause-run g c =
    let run = c.in-Some.run' in
    subst (λ (rows : List g.row.R.Denot). IsRunOf g.R.NamedRow.name_of g.R.NamedRow.rank c.args.wanted.now c.args.self.now (slice_range rows run.first run.end)) (sym (c.deref.ensures.value ∙ c.self.view_is)) c.in-Some.ensures.2
