use Rattle.std.proofs.Common.{◌≡◌, ◌++◌, take, arith, sym, ap, subst}
use Rattle.vacm_next.specs.Walk.{ComesAfter, IsLeastOf}
use Rattle.vacm_next.proofs.Walks.{with_zero, none_longer, none_with_last, with_next}
use Rattle.vacm_next.proofs.walk.name_after.Goals as goal

pub returns-then-name-lt128 : goal.returns-then-name-lt128
returns-then-name-lt128 c = subst (IsLeastOf (ComesAfter c.args.name.now)) (sym c.with_arc.ensures) (with_zero c.args.name.now c.requires c.if-name-lt128.true)

pub loop-left-init : goal.loop-left-init
loop-left-init c = (omega arith, none_longer c.args.name.now c.requires (let f = c.if-name-lt128.false in omega arith))

pub returns-in-Some : goal.returns-in-Some
returns-in-Some c =
    subst (IsLeastOf (ComesAfter c.args.name.now)) (sym c.with_arc-in-Some.ensures)
    (with_next c.args.name.now c.requires c.loop-left.left c.loop-left-test.true c.loop-left.invariant.0 c.loop-left.invariant.1 c.in-Some.arc c.in-Some.ensures.1 (let e = c.in-Some.ensures in omega (arith, e.0, e.1)))

pub loop-left-preserved : goal.loop-left-preserved
loop-left-preserved c = (
  let u = c.loop-left.invariant.0 in omega arith,
  none_with_last c.args.name.now c.requires c.loop-left.left c.loop-left-test.true c.loop-left.invariant.0 c.loop-left.invariant.1 c.in_default.ensures,
)

pub returns : goal.returns
returns c name after =
    let e : c.loop-left.left ≡ 0 = let t = c.loop-left-test.false in omega arith in
    c.loop-left.invariant.1 name name after (ap (λ n. take n c.args.name.now ++ name) (sym e))
