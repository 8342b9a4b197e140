use Rattle.std.proofs.Common.{◌≡◌, ◌+◌, [], drop, map, length, sym, ap, subst, arith}
use Rattle.std.proofs.lemmas.List.{drop_all, length-drop, length-map}
use Rattle.std.proofs.lemmas.Result.{err_from_is_err_and}
use Rattle.capture_dumps.specs.Line.{kind}
use Rattle.capture_dumps.specs.Dumps.{AreBlocks, ReadUp}
use Rattle.capture_dumps.proofs.Blocks.{closed, left_at}
use Rattle.capture_dumps.proofs.dumps.dumps_in.Goals as goal

pub returns-in_err-reading-clause-err : goal.returns-in_err-reading-clause-err
returns-in_err-reading-clause-err c =
    let p = err_from_is_err_and c.from_residual.result c.from_residual.ensures.1 in
    let at = left_at c.args.lines.now c.loop-place.place c.index-lines-place.result c.loop-place-test.true c.index-lines-place.is in
    let long = length-drop c.loop-place.place (map kind c.args.lines.now) in
    let all = length-map c.args.lines.now kind in
    let within = c.loop-place-test.true in
    let left = ap length at in
    rw (p.1, p.2)
    (c.in_err-reading.ensures.err (map kind c.args.lines.now) (drop (c.loop-place.place + 1) (map kind c.args.lines.now)) (omega (arith, long, all, left, within))
    (subst (λ rest. ReadUp (map kind c.args.lines.now) rest c.loop-place.reading) at c.loop-place.invariant))

pub loop-place-preserved : goal.loop-place-preserved
loop-place-preserved c =
    let at = left_at c.args.lines.now c.loop-place.place c.index-lines-place.result c.loop-place-test.true c.index-lines-place.is in
    c.in_ok-reading.ensures.ok (map kind c.args.lines.now) (drop (c.loop-place.place + 1) (map kind c.args.lines.now))
    (subst (λ rest. ReadUp (map kind c.args.lines.now) rest c.loop-place.reading) at c.loop-place.invariant)

pub returns-clause-ok : goal.returns-clause-ok
returns-clause-ok c =
    let over = c.loop-place-test.false in
    let all = length-map c.args.lines.now kind in
    let none : drop c.loop-place.place (map kind c.args.lines.now) ≡ [] = drop_all c.loop-place.place (map kind c.args.lines.now) (omega (arith, over, all)) in
    let read = subst (λ rest. ReadUp (map kind c.args.lines.now) rest c.loop-place.reading) none c.loop-place.invariant in
    let blocks = closed c.loop-place.reading (map kind c.args.lines.now) [] read tt in
    (blocks.0, subst (λ d. AreBlocks blocks.0 (map kind c.args.lines.now) d []) (sym c.in_ok-into_dumps.ensures) blocks.1)
