use Rattle.std.proofs.Common.{◌++◌, List, ℕ, sym, ◌∙◌, subst}
use Rattle.vacm_core.specs.View.{AnswersView}
use Rattle.vacm_core.proofs.Views.{by_view}
use Rattle.vacm_core.proofs.ask.decide_over.Goals as goal

pub returns-in_default-best_row-clause-answer : goal.returns-in_default-best_row-clause-answer
returns-in_default-best_row-clause-answer c =
    let context = c.in-Some.ensures in
    let group = c.in-Some-group_of.ensures in (
      (c.in-Some.context.now, context.0, context.1),
      (c.as_slice-group.result.now, (c.in-Some-group_of.group.now, group.0, group.1, sym c.as_slice-group.ensures.octets), c.in_default-best_row.ensures),
    )

pub returns-clause-answer : goal.returns-clause-answer
returns-clause-answer c =
    let context = c.in-Some.ensures in
    let group = c.in-Some-group_of.ensures in
    by_view _ _ c.args.asking.now.view c.args.asking.now.variable.now c.as_slice-group.result.now c.in-Some-best_row.row.now
    (c.in-Some.context.now, context.0, context.1) (c.in-Some-group_of.group.now, group.0, group.1, sym c.as_slice-group.ensures.octets) c.in-Some-best_row.ensures c.ask_view-viewed.result.answer
    (subst (λ (name : List ℕ). AnswersView (c.args.exact.now ++ c.args.others.now) name c.args.asking.now.variable.now c.ask_view-viewed.result.answer) (c.as_slice-view.ensures.octets ∙ c.view.ensures)
    c.ask_view-viewed.ensures.answer)
