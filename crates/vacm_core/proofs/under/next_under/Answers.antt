use Rattle.std.proofs.Common.{length, ap, arith}
use Rattle.vacm_core.proofs.Fronts.{parted, none_shorter, none_past, goes_on, none_then}
use Rattle.vacm_core.proofs.under.next_under.Goals as goal

pub returns-then-as_slice-beginning-clause-none : goal.returns-then-as_slice-beginning-clause-none
returns-then-as_slice-beginning-clause-none c =
    let rows = c.args.rows.now in
    let short = none_shorter rows c.requires.falling c.args.beginning.now c.requires.exact c.loop-at.at c.index-rows-at.result c.loop-at-test.true c.index-rows-at.is
    (let t = c.if-as_slice-beginning.true in let e = ap length c.as_slice.ensures.value in omega arith) in
    none_then rows c.args.beginning.now c.args.place c.loop-at.at (length rows) c.loop-at.invariant.2 short

pub count_before-at-requires : goal.count_before-at-requires
count_before-at-requires c = parted c.args.rows.now c.requires.falling c.args.beginning.now c.in-Some.size

pub loop-at-preserved : goal.loop-at-preserved
loop-at-preserved c =
    let rows = c.args.rows.now in
    let next = c.count_before-at.result in
    let on = goes_on rows c.requires.falling c.args.beginning.now c.requires.exact c.loop-at.at c.index-rows-at.result c.loop-at-test.true c.index-rows-at.is c.in-Some.size next c.in-Some.ensures c.count_before-at.ensures.point in
    let past = none_past rows c.requires.falling c.args.beginning.now c.requires.exact c.loop-at.at c.index-rows-at.result c.loop-at-test.true c.index-rows-at.is c.in-Some.size next c.in-Some.ensures c.count_before-at.ensures.within c.count_before-at.ensures.point in (
      let from = c.loop-at.invariant.0 in omega arith,
      c.count_before-at.ensures.within,
      none_then rows c.args.beginning.now c.args.place c.loop-at.at next c.loop-at.invariant.2 past,
    )

pub loop-at-smaller : goal.loop-at-smaller
loop-at-smaller c =
    let rows = c.args.rows.now in
    let on = goes_on rows c.requires.falling c.args.beginning.now c.requires.exact c.loop-at.at c.index-rows-at.result c.loop-at-test.true c.index-rows-at.is c.in-Some.size c.count_before-at.result c.in-Some.ensures c.count_before-at.ensures.point in
    let t = c.loop-at-test.true in
    omega arith
