use Rattle.std.proofs.Common.{◌≡◌, ◌+◌, ◌-◌, sym, subst, arith}
use Rattle.vacm_core.proofs.Exact.{NoneFrom, none_here, longest_is_best}
use Rattle.snmpsec_access.specs.Rising.{rows_at}
use Rattle.snmpsec_access.proofs.Decides.{said_by_best, said_by_none}
use Rattle.snmpsec_access.proofs.subtrees.says.Goals as goal

pub loop-left-preserved : goal.loop-left-preserved
loop-left-preserved c =
    let rows = rows_at c.args.rows.now in
    let some = c.loop-left-test.true in
    let e : c.loop-left.left ≡ c.loop-left.left - 1 + 1 = omega arith in (
      let upto = c.loop-left.invariant.0 in omega arith,
      none_here c.args.variable.now rows c.requires.exact (c.loop-left.left - 1) (subst (NoneFrom c.args.variable.now rows c.requires.exact) e c.loop-left.invariant.1) c.in_default.ensures,
    )

pub returns-in-Some : goal.returns-in-Some
returns-in-Some c =
    let rows = rows_at c.args.rows.now in
    let variable = c.args.variable.now in
    let some = c.loop-left-test.true in
    let upto = c.loop-left.invariant.0 in
    let e : c.loop-left.left ≡ c.loop-left.left - 1 + 1 = omega arith in
    sym (said_by_best rows variable c.requires.rising c.requires.one_each c.in-Some.row.now
    (longest_is_best variable rows c.requires.exact (c.loop-left.left - 1) c.in-Some.row.now (omega arith) (subst (NoneFrom variable rows c.requires.exact) e c.loop-left.invariant.1) c.in-Some.ensures.0 c.in-Some.ensures.1))

pub returns : goal.returns
returns c =
    let none = c.loop-left-test.false in
    sym (said_by_none (rows_at c.args.rows.now) c.args.variable.now c.requires.rising (λ row there. c.loop-left.invariant.1 row there (omega arith)))
