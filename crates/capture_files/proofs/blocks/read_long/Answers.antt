use Rattle.std.proofs.Common.{◌++◌, ◌-◌, take, drop, length, arith, subst, ◌∙◌, take_all, length-append, length-take-le, length-drop, inl}
use Rattle.std.specs.Io.KnownBytes.{Consumes}
use Rattle.std.proofs.KnownBytes.{Consumes-trans}
use Rattle.capture_files.proofs.Fronts.{four_more, put_long, read_long}
use Rattle.capture_files.proofs.blocks.read_long.Goals as goal

pub returns-in_default-skip-clause-err : goal.returns-in_default-skip-clause-err
returns-in_default-skip-clause-err g c =
    let have = c.requires.have in
    let least = c.requires.least in
    let whole = c.requires.room in
    let front = length-take-le c.args.have c.args.room.now (omega (arith, have, whole)) in
    let back = length-drop c.args.have c.args.room.now in
    let room = c.in-Ok.ensures.room ∙ length-take-le (length c.args.room.now - c.args.have) (drop c.args.have c.args.room.now) (omega (arith, back)) in
    let err = c.in_default-skip.ensures.err in
    let less = err.2 in
    let all = length-append (take c.args.have c.args.room.now) (c.read_full.new.buf ++ err.0) in
    let more = length-append c.read_full.new.buf err.0 in
    record {
      more = c.read_full.new.buf ++ err.0;
      consumed = Consumes-trans _ _ _ _ _ (subst (Consumes _ _) (take_all c.in-Ok.count c.read_full.new.buf (omega (arith, room, whole, c.if-count-have.false))) c.in-Ok.ensures.ok) err.1;
      less = omega (arith, all, more, front, room, whole, have, less, least);
    }

pub returns-then-not-skipped-clause-ok : goal.returns-then-not-skipped-clause-ok
returns-then-not-skipped-clause-ok g c =
    let have = c.requires.have in
    let least = c.requires.least in
    let whole = c.requires.room in
    let front = length-take-le c.args.have c.args.room.now (omega (arith, have, whole)) in
    let back = length-drop c.args.have c.args.room.now in
    let room = c.in-Ok.ensures.room ∙ length-take-le (length c.args.room.now - c.args.have) (drop c.args.have c.args.room.now) (omega (arith, back)) in
    let some = rw c.if-not-skipped.true at c.in-Ok-skip.ensures.ok in
    let less = some.2 in
    let all = length-append (take c.args.have c.args.room.now) (c.read_full.new.buf ++ some.0) in
    let more = length-append c.read_full.new.buf some.0 in
    record {
      more = c.read_full.new.buf ++ some.0;
      consumed = Consumes-trans _ _ _ _ _ (subst (Consumes _ _) (take_all c.in-Ok.count c.read_full.new.buf (omega (arith, room, whole, c.if-count-have.false))) c.in-Ok.ensures.ok) some.1;
      is = inl (omega (arith, all, more, front, room, whole, have, less, least), some.3);
    }

pub returns-in_default-read_full-clause-err : goal.returns-in_default-read_full-clause-err
returns-in_default-read_full-clause-err g c =
    let have = c.requires.have in
    let least = c.requires.least in
    let whole = c.requires.room in
    let front = length-take-le c.args.have c.args.room.now (omega (arith, have, whole)) in
    let back = length-drop c.args.have c.args.room.now in
    let room = c.in-Ok.ensures.room ∙ length-take-le (length c.args.room.now - c.args.have) (drop c.args.have c.args.room.now) (omega (arith, back)) in
    let some = rw c.if-not-skipped.false at c.in-Ok-skip.ensures.ok in
    let count = some.2 in
    let err = c.in_default-read_full.ensures.err in
    let less = err.1 in
    let four = c.in_default-read_full.ensures.room in
    let last = length-take-le err.0 c.read_full-2.new.buf (omega (arith, less)) in
    let all = length-append (take c.args.have c.args.room.now) ((c.read_full.new.buf ++ some.0) ++ take err.0 c.read_full-2.new.buf) in
    let more = length-append c.read_full.new.buf some.0 in
    let most = length-append (c.read_full.new.buf ++ some.0) (take err.0 c.read_full-2.new.buf) in
    let enough = four_more c.args.head.size least c.requires.fours in
    record {
      more = (c.read_full.new.buf ++ some.0) ++ take err.0 c.read_full-2.new.buf;
      consumed = Consumes-trans _ _ _ _ _ (Consumes-trans _ _ _ _ _ (subst (Consumes _ _) (take_all c.in-Ok.count c.read_full.new.buf (omega (arith, room, whole, c.if-count-have.false))) c.in-Ok.ensures.ok) some.1) err.2;
      less = omega (arith, all, more, most, last, front, room, whole, have, less, least, count, four, enough);
    }

pub returns-then-last-lt4-clause-ok : goal.returns-then-last-lt4-clause-ok
returns-then-last-lt4-clause-ok g c =
    let have = c.requires.have in
    let least = c.requires.least in
    let whole = c.requires.room in
    let front = length-take-le c.args.have c.args.room.now (omega (arith, have, whole)) in
    let back = length-drop c.args.have c.args.room.now in
    let room = c.in-Ok.ensures.room ∙ length-take-le (length c.args.room.now - c.args.have) (drop c.args.have c.args.room.now) (omega (arith, back)) in
    let some = rw c.if-not-skipped.false at c.in-Ok-skip.ensures.ok in
    let count = some.2 in
    let few = c.if-last-lt4.true in
    let four = c.in-Ok-read_full.ensures.room in
    let bound = c.in-Ok-read_full.ensures.bound in
    let last = length-take-le c.in-Ok-read_full.last c.read_full-2.new.buf bound in
    let all = length-append (take c.args.have c.args.room.now) ((c.read_full.new.buf ++ some.0) ++ take c.in-Ok-read_full.last c.read_full-2.new.buf) in
    let more = length-append c.read_full.new.buf some.0 in
    let most = length-append (c.read_full.new.buf ++ some.0) (take c.in-Ok-read_full.last c.read_full-2.new.buf) in
    let enough = four_more c.args.head.size least c.requires.fours in
    record {
      more = (c.read_full.new.buf ++ some.0) ++ take c.in-Ok-read_full.last c.read_full-2.new.buf;
      consumed = Consumes-trans _ _ _ _ _ (Consumes-trans _ _ _ _ _ (subst (Consumes _ _) (take_all c.in-Ok.count c.read_full.new.buf (omega (arith, room, whole, c.if-count-have.false))) c.in-Ok.ensures.ok) some.1)
          c.in-Ok-read_full.ensures.ok;
      is = inl (omega (arith, all, more, most, last, front, room, whole, have, few, least, count, enough), c.in-Ok-read_full.ensures.end (omega (arith, few, four)));
    }

pub returns-clause-ok : goal.returns-clause-ok
returns-clause-ok g c =
    let have = c.requires.have in
    let least = c.requires.least in
    let whole = c.requires.room in
    let front = length-take-le c.args.have c.args.room.now (omega (arith, have, whole)) in
    let back = length-drop c.args.have c.args.room.now in
    let room = c.in-Ok.ensures.room ∙ length-take-le (length c.args.room.now - c.args.have) (drop c.args.have c.args.room.now) (omega (arith, back)) in
    let some = rw c.if-not-skipped.false at c.in-Ok-skip.ensures.ok in
    let four = c.in-Ok-read_full.ensures.room in
    let all = length-append (take c.args.have c.args.room.now) c.read_full.new.buf in
    record {
      more = (c.read_full.new.buf ++ some.0) ++ c.read_full-2.new.buf;
      consumed = Consumes-trans _ _ _ _ _ (Consumes-trans _ _ _ _ _ (subst (Consumes _ _) (take_all c.in-Ok.count c.read_full.new.buf (omega (arith, room, whole, c.if-count-have.false))) c.in-Ok.ensures.ok) some.1)
          (subst (Consumes _ _) (take_all c.in-Ok-read_full.last c.read_full-2.new.buf (omega (arith, four, c.if-last-lt4.false))) c.in-Ok-read_full.ensures.ok);
      is = read_long c.args.head (take c.args.have c.args.room.now) c.read_full.new.buf _ some.0 c.read_full-2.new.buf _ _ (omega (arith, all, front, room, whole, have)) (put_long c.args.have (length c.args.room.now - c.args.have) c.args.room.now c.read_full.new.buf (omega (arith, room)) (omega (arith, have, whole)) ∙ whole) least some.2 four c.requires.fours c.read_32.ensures;
    }
