use Rattle.std.proofs.Common.{arith, length-append}
use Rattle.vacm_core.proofs.Views.{rows_of_view, distinct_of_view}
use Rattle.vacm_core.proofs.vacm.Vacm.rows_of_view.Goals as goal

pub of-requires-clause-distinct : goal.of-requires-clause-distinct
of-requires-clause-distinct c =
    distinct_of_view c.self.inside.exact c.self.inside.others c.rows_of.result.now c.rows_of-2.result.now c.args.view.now c.rows_of.ensures.run c.rows_of-2.ensures.run
    c.self.invariant.0.families

pub of-requires-clause-few : goal.of-requires-clause-few
of-requires-clause-few c =
    let a = length-append c.rows_of.result.now c.rows_of-2.result.now in
    let b = length-append c.self.inside.exact c.self.inside.others in
    let l = c.self.invariant.2 in
    let m = c.rows_of.ensures.short in
    let n = c.rows_of-2.ensures.short in
    omega arith

pub returns : goal.returns
returns c =
    let rows = rows_of_view c.self.inside.exact c.self.inside.others c.rows_of.result.now c.rows_of-2.result.now c.args.view.now c.rows_of.ensures.run c.rows_of-2.ensures.run in
    rw (← c.self.view_is, c.of.ensures) rows
