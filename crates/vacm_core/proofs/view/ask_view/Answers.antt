use Rattle.std.proofs.Common.{◌≡◌, ◌++◌, true, false, rules, inl}
use Rattle.vacm_core.proofs.Views.{has_view_where, where_has_view, best_of_view, none_of_view, none_of_no_view, by_row}
use Rattle.vacm_core.proofs.view.ask_view.Goals as goal

pub returns-then-not-has_view-clause-answer : goal.returns-then-not-has_view-clause-answer
returns-then-not-has_view-clause-answer c h =
    let there = c.has_view.ensures.1 (where_has_view c.args.exact.now c.args.others.now _ _ c.args.view.now c.rows_of-exact.ensures.run c.rows_of-others.ensures.run h) in
    let e : false ≡ true = search rules in cc

pub returns-then-not-has_view-clause-row : goal.returns-then-not-has_view-clause-row
returns-then-not-has_view-clause-row c = none_of_no_view (c.args.exact.now ++ c.args.others.now) c.args.view.now c.args.variable.now (returns-then-not-has_view-clause-answer c)

pub returns-in_default-clause-row : goal.returns-in_default-clause-row
returns-in_default-clause-row c named =
    none_of_view c.args.exact.now c.args.others.now _ _ c.args.view.now c.rows_of-exact.ensures.run c.rows_of-others.ensures.run c.args.variable.now c.in_default.ensures

pub returns-in_default-clause-answer : goal.returns-in_default-clause-answer
returns-in_default-clause-answer c =
    let view : c.has_view.result ≡ true = search rules in (
      has_view_where c.args.exact.now c.args.others.now _ _ c.args.view.now c.rows_of-exact.ensures.run c.rows_of-others.ensures.run (c.has_view.ensures.0 view),
      inl (none_of_view c.args.exact.now c.args.others.now _ _ c.args.view.now c.rows_of-exact.ensures.run c.rows_of-others.ensures.run c.args.variable.now c.in_default.ensures),
    )

pub returns-clause-row : goal.returns-clause-row
returns-clause-row c named =
    best_of_view c.args.exact.now c.args.others.now _ _ c.args.view.now c.rows_of-exact.ensures.run c.rows_of-others.ensures.run c.args.variable.now c.in-Some.row.now c.in-Some.ensures

pub returns-clause-answer : goal.returns-clause-answer
returns-clause-answer c =
    let view : c.has_view.result ≡ true = search rules in
    by_row (c.args.exact.now ++ c.args.others.now) c.args.view.now c.args.variable.now c.in-Some.row.now
    (has_view_where c.args.exact.now c.args.others.now _ _ c.args.view.now c.rows_of-exact.ensures.run c.rows_of-others.ensures.run (c.has_view.ensures.0 view))
    (best_of_view c.args.exact.now c.args.others.now _ _ c.args.view.now c.rows_of-exact.ensures.run c.rows_of-others.ensures.run c.args.variable.now c.in-Some.row.now c.in-Some.ensures)
    c.answer.result c.answer.ensures
