use Rattle.std.proofs.Common.{◌<◌, ◌∙◌, ap, sym, arith, ℕ, List, [], get_or, length, take}
use Rattle.std.specs.List.{fold}
use Rattle.std.proofs.lemmas.List.Sums.{fold_more}
use Rattle.vacm_core.specs.declared.rows.AccessRow.{AccessRow}
use Rattle.snmpsec_gate_config.specs.Views.{with_view}
use Rattle.snmpsec_gate_config.proofs.view.views_without_family.Goals as goal

pub loop-row-preserved : goal.loop-row-preserved
loop-row-preserved c =
    let families = c.args.rows.now.families.items in
    let rows = c.args.rows.now.access.items in
    let i = c.loop-row.row-index in
    let row = c.row-item.result in
    let within : i < length rows = omega (arith, c.loop-row-test.true) in
    let step = c.in_ok-put_view.ensures families c.loop-row.invariant.0 in
    let before = ap (λ (views : List (List ℕ)). with_view families views row) c.loop-row.invariant.1 in
    let is = c.row-item.is ∙ ap (λ (list : List AccessRow). get_or list i row) c.deref-row-items.ensures.value in
    let at = ap (λ (r : AccessRow). with_view families (fold (with_view families) [] (take i rows)) r) is in
    (step.0, step.1 ∙ (before ∙ (at ∙ sym (fold_more (with_view families) [] rows i row within))))
