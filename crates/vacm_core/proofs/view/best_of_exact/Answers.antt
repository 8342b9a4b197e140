use Rattle.std.proofs.Common.{arith, ap, subst, sym, ◌∙◌, ◌+◌, ◌-◌, ◌≡◌}
use Rattle.vacm_core.specs.declared.rows.FamilyRow.{FamilyRow}
use Rattle.vacm_core.proofs.Exact.{NoneFrom, none_past, none_between, longest_is_best}
use Rattle.vacm_core.proofs.view.best_of_exact.Goals as goal

pub loop-left-init : goal.loop-left-init
loop-left-init c =
    let e = c.min-left.ensures in
    (omega arith, none_past c.args.variable.now c.args.rows.now c.requires.exact c.min-left.result c.arcs_from.result c.arcs_from.ensures (λ x from below. omega arith))

pub loop-left-preserved : goal.loop-left-preserved
loop-left-preserved c =
    let variable = c.args.variable.now in
    let rows = c.args.rows.now in
    let some = c.loop-left-test.true in
    let upto = c.loop-left.invariant.0 in
    let next = c.min-left-in-Err.ensures in
    let e : c.loop-left.left ≡ c.loop-left.left - 1 + 1 = omega arith in (
      omega arith,
      none_between variable rows c.requires.exact (c.loop-left.left - 1) c.in-Err.place (omega arith)
          (subst (NoneFrom variable rows c.requires.exact) e c.loop-left.invariant.1)
          c.in-Err.ensures c.min-left-in-Err.result c.arcs_from-in-Err.result c.arcs_from-in-Err.ensures (λ x from below. omega arith),
    )

pub returns-in-Ok : goal.returns-in-Ok
returns-in-Ok c =
    let variable = c.args.variable.now in
    let rows = c.args.rows.now in
    let row = c.index-rows-place.result in
    let some = c.loop-left-test.true in
    let upto = c.loop-left.invariant.0 in
    let e : c.loop-left.left ≡ c.loop-left.left - 1 + 1 = omega arith in
    longest_is_best variable rows c.requires.exact (c.loop-left.left - 1) row (omega arith)
    (subst (NoneFrom variable rows c.requires.exact) e c.loop-left.invariant.1)
    (c.in-Ok.place, c.in-Ok.ensures.0, sym c.index-rows-place.is)
    (ap (λ (r : FamilyRow). r.subtree) c.index-rows-place.is ∙ c.in-Ok.ensures.1 row)

pub returns : goal.returns
returns c row there = let none = c.loop-left-test.false in c.loop-left.invariant.1 row there (omega arith)
