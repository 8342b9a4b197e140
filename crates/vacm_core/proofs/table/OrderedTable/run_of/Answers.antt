use Rattle.std.proofs.Common.{rules, ◌≢◌, ℕ, ◌<◌, ◌≤◌, subst, length, get_or, List, slice_range}
use Rattle.vacm_core.specs.RowOrder.{IsRunOf}
use Rattle.vacm_core.proofs.Places.{none_missing, run_found}
use Rattle.vacm_core.proofs.table.OrderedTable.run_of.Goals as goal

pub returns-in_err-get : goal.returns-in_err-get
returns-in_err-get g c =
    let none : (k : ℕ) (d : g.row.R.Denot) → k < length c.args.self.now → g.R.NamedRow.name_of (get_or c.args.self.now k d) ≢ c.args.wanted.now =
    subst (λ (rows : List g.row.R.Denot). (k : ℕ) (d : g.row.R.Denot) → k < length rows → g.R.NamedRow.name_of (get_or rows k d) ≢ c.args.wanted.now) c.self.view_is
    (none_missing g.R.NamedRow.name_of g.R.NamedRow.rank c.args.wanted.now c.self.inside.rows.items c.self.inside.runs.entries c.self.invariant c.in_ok-name.name c.in_ok-name.ensures.made c.in_err-get.ensures.value) in
    search rules

pub returns : goal.returns
returns g c =
    let run = c.in_ok-get.field-0.now in
    subst (λ (rows : List g.row.R.Denot). (run.first ≤ run.end) × (run.end ≤ length rows) × IsRunOf g.R.NamedRow.name_of g.R.NamedRow.rank c.args.wanted.now rows (slice_range rows run.first run.end)) c.self.view_is
    (run_found g.R.NamedRow.name_of g.R.NamedRow.rank c.args.wanted.now c.self.inside.rows.items c.self.inside.runs.entries c.self.invariant c.in_ok-name.name c.in_ok-name.ensures.made c.in_ok-get.field-0.now c.in_ok-get.ensures.value)
