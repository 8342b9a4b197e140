use Rattle.snmpsec_access.specs.Rising.{rows_at}
use Rattle.snmpsec_access.proofs.Picks.{within_rows, item_at, taken_there, next_left}
use Rattle.snmpsec_access.proofs.subtrees.needed_of_exact.Goals as goal

pub keep_needed-requires : goal.keep_needed-requires
keep_needed-requires c =
    let rows = rows_at c.args.rows.now in
    let i = c.loop-row.row-index in
    let left = c.loop-row.invariant in
    record {
      exact = λ row there. c.requires.exact row (taken_there rows i row (left.among row there));
      rising = left.rising;
      one_each = λ x y there_x there_y. c.requires.one_each x y (taken_there rows i x (left.among x there_x)) (taken_there rows i y (left.among y there_y));
    }

pub loop-row-preserved : goal.loop-row-preserved
loop-row-preserved c =
    let items = c.args.rows.now in
    let i = c.loop-row.row-index in
    next_left (rows_at items) i c.row-item.result.now (within_rows items i c.loop-row-test.true) (item_at items i c.row-item.result c.row-item.is) c.requires.rising c.requires.exact c.requires.one_each
    _ _ c.loop-row.invariant c.in_ok-keep_needed.ensures
