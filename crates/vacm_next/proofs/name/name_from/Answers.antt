use Rattle.std.proofs.Common.{◌-◌, arith, sym, ap, subst, take, ◌≡◌, ◌++◌}
use Rattle.vacm_core.specs.View.{Includes}
use Rattle.vacm_next.specs.Next.{IsLeastFrom}
use Rattle.vacm_next.proofs.Arcs.{arc_below}
use Rattle.vacm_next.proofs.Names.{up, found}
use Rattle.vacm_next.proofs.name.name_from.Goals as goal

pub loop-left-preserved-in_default : goal.loop-left-preserved-in_default
loop-left-preserved-in_default c = (
  let u = c.loop-left.invariant.0 in omega arith,
  up c.args.rows.now c.args.from.now c.loop-left.left c.loop-left-test.true c.loop-left.invariant.0 c.loop-left.invariant.1
      (λ a greater opens. c.in_default.ensures (let b = arc_below c.args.rows.now (take (c.loop-left.left - 1) c.args.from.now) a opens in omega (arith, b, greater))),
)

pub returns-in-Some-least_arc : goal.returns-in-Some-least_arc
returns-in-Some-least_arc c =
    let least = c.in-Some-least_arc.ensures in
    let low = c.in-Some.ensures.1 in
    let arc = c.in-Some-least_arc.arc in
    found c.args.rows.now c.args.from.now c.loop-left.left c.loop-left-test.true c.loop-left.invariant.0 c.loop-left.invariant.1 arc (let f = least.from_on in omega arith)
    (λ b greater less. least.least b (omega (arith, greater, low)) less) c.least_name-in-Some-least_arc.result
    (subst (λ xs. IsLeastFrom (Includes c.args.rows.now) xs c.least_name-in-Some-least_arc.result) c.with_arc.ensures c.least_name-in-Some-least_arc.ensures)

pub loop-left-preserved : goal.loop-left-preserved
loop-left-preserved c = (
  let u = c.loop-left.invariant.0 in omega arith,
  up c.args.rows.now c.args.from.now c.loop-left.left c.loop-left-test.true c.loop-left.invariant.0 c.loop-left.invariant.1
      (λ a greater. let low = c.in-Some.ensures.1 in c.in_default-least_arc.ensures a (omega (arith, greater, low))),
)

pub returns : goal.returns
returns c name arcs from_on included =
    let e : c.loop-left.left ≡ 0 = let t = c.loop-left-test.false in omega arith in
    c.loop-left.invariant.1 name name arcs from_on (ap (λ n. take n c.args.from.now ++ name) (sym e)) included
