use Rattle.std.proofs.Common.{arith, sym, subst}
use Rattle.vacm_next.specs.Opening.{IsLowerThan}
use Rattle.vacm_next.proofs.Arcs.{passed, after}
use Rattle.vacm_next.proofs.arc.arc_after.Goals as goal

pub returns-in-Some : goal.returns-in-Some
returns-in-Some c = (
  c.if-other-arc.true,
  λ other greater less.
      passed c.args.rows.now c.args.beginning.now c.args.arc c.loop-place.place (let t = c.loop-place-test.false in let e = c.count.ensures.count in omega arith) (let f = c.ranges.arc.fits in omega arith)
      c.loop-place.least c.loop-place.invariant.1 other greater (subst (IsLowerThan c.args.arc) (sym c.in-Some.is) c.if-other-arc.true) (subst (IsLowerThan other) (sym c.in-Some.is) less),
)

pub returns-in-Some-2 : goal.returns-in-Some-2
returns-in-Some-2 c = after c.args.rows.now c.args.beginning.now c.args.arc c.checked_add.result c.checked_add.ensures

pub returns-in-None : goal.returns-in-None
returns-in-None c other greater =
    passed c.args.rows.now c.args.beginning.now c.args.arc c.loop-place.place (let t = c.loop-place-test.false in let e = c.count.ensures.count in omega arith) (let f = c.ranges.arc.fits in omega arith)
    c.loop-place.least c.loop-place.invariant.1 other greater (subst (IsLowerThan c.args.arc) (sym c.in-None.is) tt) (subst (IsLowerThan other) (sym c.in-None.is) tt)
