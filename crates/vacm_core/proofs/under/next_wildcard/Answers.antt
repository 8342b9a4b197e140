use Rattle.std.proofs.Common.{length, arith}
use Rattle.vacm_core.proofs.Fronts.{none_then}
use Rattle.vacm_core.proofs.Shapes.{none_shorter_alike}
use Rattle.vacm_core.proofs.under.next_wildcard.Goals as goal

pub returns-then-length-beginning-clause-none : goal.returns-then-length-beginning-clause-none
returns-then-length-beginning-clause-none c =
    let rows = c.args.rows.now in
    let short = none_shorter_alike rows c.requires.falling c.args.beginning.now c.loop-at.at c.index-rows-at.result c.loop-at-test.true c.index-rows-at.is
    (let t = c.if-length-beginning.true in let e = c.length.ensures in omega arith) in
    none_then rows c.args.beginning.now c.args.place c.loop-at.at (length rows) c.loop-at.invariant.2 short
