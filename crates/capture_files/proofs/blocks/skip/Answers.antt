use Rattle.std.proofs.Common.{◌++◌, take, drop, arith, ◌∙◌, length-append, length-take-le, length-drop}
use Rattle.std.proofs.KnownBytes.{Consumes-trans}
use Rattle.std.proofs.Math.Nat.{min-le_left, min-le_right}
use Rattle.capture_files.proofs.Fronts.{most_taken}
use Rattle.capture_files.proofs.blocks.skip.Goals as goal

pub returns-in_default-clause-err : goal.returns-in_default-clause-err
returns-in_default-clause-err g c =
    let before = c.loop-left.invariant.skipped in
    let sum = before.2 in
    let err = c.in_default.ensures.err in
    let less = err.1 in
    let some = c.min-some.ensures in
    let few = min-le_left c.loop-left.left 4096 in
    let room = c.in_default.ensures.room in
    let most = most_taken c.min-some.result c.loop-left.buffer in
    let part = length-take-le err.0 c.read_full.new.buf (omega (arith, less)) in
    let all = length-append before.0 (take err.0 c.read_full.new.buf) in (
      before.0 ++ take err.0 c.read_full.new.buf,
      Consumes-trans _ _ _ _ _ before.1 err.2,
      omega (arith, all, part, less, room, most, some, few, sum),
    )

pub returns-then-read-some-clause-ok : goal.returns-then-read-some-clause-ok
returns-then-read-some-clause-ok g c =
    let before = c.loop-left.invariant.skipped in
    let sum = before.2 in
    let less = c.if-read-some.true in
    let some = c.min-some.ensures in
    let few = min-le_left c.loop-left.left 4096 in
    let room = c.in-Ok.ensures.room in
    let bound = c.in-Ok.ensures.bound in
    let part = length-take-le c.in-Ok.read c.read_full.new.buf bound in
    let all = length-append before.0 (take c.in-Ok.read c.read_full.new.buf) in
    let fits = min-le_right c.loop-left.left 4096 in
    let size = c.loop-left.invariant.long in
    let long = length-take-le c.min-some.result c.loop-left.buffer (omega (arith, some, fits, size)) in (
      before.0 ++ take c.in-Ok.read c.read_full.new.buf,
      Consumes-trans _ _ _ _ _ before.1 c.in-Ok.ensures.ok,
      omega (arith, all, part, less, some, few, sum),
      c.in-Ok.ensures.end (omega (arith, room, long, less)),
    )

pub loop-left-preserved : goal.loop-left-preserved
loop-left-preserved g c =
    let before = c.loop-left.invariant.skipped in
    let within = c.loop-left.invariant.within in
    let sum = before.2 in
    let enough = c.if-read-some.false in
    let some = c.min-some.ensures in
    let few = min-le_left c.loop-left.left 4096 in
    let room = c.in-Ok.ensures.room in
    let bound = c.in-Ok.ensures.bound in
    let most = most_taken c.min-some.result c.loop-left.buffer in
    let part = length-take-le c.in-Ok.read c.read_full.new.buf bound in
    let all = length-append before.0 (take c.in-Ok.read c.read_full.new.buf) in
    let size = c.loop-left.invariant.long in
    let fits = min-le_right c.loop-left.left 4096 in
    let taken = length-take-le c.min-some.result c.loop-left.buffer (omega (arith, some, fits, size)) in
    let back = length-drop c.min-some.result c.loop-left.buffer in
    let both = length-append c.read_full.new.buf (drop c.min-some.result c.loop-left.buffer) in
    record {
      long = both ∙ omega (arith, room, taken, back, size, some, fits);
      within = omega (arith, within);
      skipped = (
        before.0 ++ take c.in-Ok.read c.read_full.new.buf,
        Consumes-trans _ _ _ _ _ before.1 c.in-Ok.ensures.ok,
        omega (arith, all, part, enough, bound, room, most, some, few, sum),
      );
    }
