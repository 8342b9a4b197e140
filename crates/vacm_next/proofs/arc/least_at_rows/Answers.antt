use Rattle.std.proofs.Common.{arith}
use Rattle.vacm_next.proofs.Arcs.{one_more_opens, least_found, kept_open}
use Rattle.vacm_next.proofs.arc.least_at_rows.Goals as goal

pub loop-place-preserved : goal.loop-place-preserved
loop-place-preserved c = record {
  within = c.next_under-place-in-loop-place.ensures.within;
  first = λ lower. c.loop-place.invariant.first (c.lesser_at_row-least.ensures.under c.args.low lower);
  tried = one_more_opens c.args.rows.now c.args.beginning.now c.args.low c.loop-place.least c.lesser_at_row-least.result c.loop-place.place c.next_under-place-in-loop-place.result c.row.result.now
      c.row.ensures c.lesser_at_row-least.ensures.under c.lesser_at_row-least.ensures.row c.next_under-place-in-loop-place.ensures.none c.loop-place.invariant.tried;
  found = kept_open c.args.rows.now c.args.beginning.now c.args.low c.loop-place.least c.lesser_at_row-least.result c.loop-place.invariant.found c.lesser_at_row-least.ensures.one;
}

pub returns : goal.returns
returns c =
    least_found c.args.rows.now c.args.beginning.now c.args.low c.loop-place.least c.loop-place.invariant.first
    (λ k d within. c.loop-place.invariant.tried k d (let t = c.loop-place-test.false in let e = c.count.ensures.count in omega (arith, within)))
    c.loop-place.invariant.found
