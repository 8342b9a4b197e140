use Rattle.std.proofs.Common.{◌≡◌, ◌++◌, [], take, drop, arith, subst, refl, sym, ◌∙◌, take_all, take_at, append-nil, length-take-le, inr}
use Rattle.std.specs.Io.KnownBytes.{Consumes}
use Rattle.capture_files.specs.Formats.{HasNoBlockHead, HasNoItem}
use Rattle.capture_files.specs.Pcapng.{section_of}
use Rattle.capture_files.proofs.Fronts.{none_headless, none_short}
use Rattle.capture_files.proofs.blocks.read_block.Goals as goal

pub returns-in_default-clause-err : goal.returns-in_default-clause-err
returns-in_default-clause-err g c =
    let whole = c.requires in
    let err = c.in_default.ensures.err in
    let less = err.1 in
    let room = c.in_default.ensures.room ∙ length-take-le 12 c.args.room.now (omega (arith, whole)) in
    let part = length-take-le err.0 c.read_full.new.buf (omega (arith, less)) in
    record {
      part = take err.0 c.read_full.new.buf;
      none = subst (HasNoItem (inr (section_of c.args.section.now))) (append-nil _) (none_short (section_of c.args.section.now) (take err.0 c.read_full.new.buf) [] (omega (arith, part, less, room)) refl);
      most = omega (arith, part, less, room);
      consumed = err.2;
    }

pub returns-then-count-lt-FRONT-clause-ok : goal.returns-then-count-lt-FRONT-clause-ok
returns-then-count-lt-FRONT-clause-ok g c =
    let whole = c.requires in
    let few = c.if-count-lt-FRONT.true in
    let some = c.if-count-eq0.false in
    let room = c.in-Ok.ensures.room ∙ length-take-le 12 c.args.room.now (omega (arith, whole)) in
    let part = length-take-le c.in-Ok.count c.read_full.new.buf c.in-Ok.ensures.bound in
    let end = c.in-Ok.ensures.end (omega (arith, few, room)) in
    record {
      part = take c.in-Ok.count c.read_full.new.buf;
      some = omega (arith, part, some);
      most = omega (arith, part, few);
      consumed = c.in-Ok.ensures.ok;
      none = λ rest is. none_short _ (take c.in-Ok.count c.read_full.new.buf) rest (omega (arith, part, few)) (rw is at end);
    }

pub returns-in_default-read_block_head-clause-ok : goal.returns-in_default-read_block_head-clause-ok
returns-in_default-read_block_head-clause-ok g c =
    let whole = c.requires in
    let room = c.in-Ok.ensures.room ∙ length-take-le 12 c.args.room.now (omega (arith, whole)) in
    let same : take 12 (c.read_full.new.buf ++ drop 12 c.args.room.now) ≡ c.read_full.new.buf = take_at c.read_full.new.buf (drop 12 c.args.room.now) 12 room in
    let read = subst (Consumes _ _) (take_all c.in-Ok.count c.read_full.new.buf (omega (arith, room, c.if-count-lt-FRONT.false)) ∙ sym same) c.in-Ok.ensures.ok in
    record {
      part = c.read_full.new.buf;
      some = omega (arith, room);
      most = omega (arith, room);
      consumed = subst (Consumes _ _) same read;
      none = λ rest is. none_headless _ c.read_full.new.buf rest (omega (arith, room)) (subst (HasNoBlockHead _) same c.in_default-read_block_head.ensures.none);
    }

pub returns-in-Ok-Some-clause-ok : goal.returns-in-Ok-Some-clause-ok
returns-in-Ok-Some-clause-ok g c =
    let whole = c.requires in
    let room = c.in-Ok.ensures.room ∙ length-take-le 12 c.args.room.now (omega (arith, whole)) in
    let same : take 12 (c.read_full.new.buf ++ drop 12 c.args.room.now) ≡ c.read_full.new.buf = take_at c.read_full.new.buf (drop 12 c.args.room.now) 12 room in
    let read = subst (Consumes _ _) (take_all c.in-Ok.count c.read_full.new.buf (omega (arith, room, c.if-count-lt-FRONT.false)) ∙ sym same) c.in-Ok.ensures.ok in
    let got = c.in-Ok-Some.ensures.ok _ read in (rw c.in-Ok-Some.field-0-is at got).0

pub returns-in-Ok-None-clause-ok : goal.returns-in-Ok-None-clause-ok
returns-in-Ok-None-clause-ok g c =
    let whole = c.requires in
    let room = c.in-Ok.ensures.room ∙ length-take-le 12 c.args.room.now (omega (arith, whole)) in
    let same : take 12 (c.read_full.new.buf ++ drop 12 c.args.room.now) ≡ c.read_full.new.buf = take_at c.read_full.new.buf (drop 12 c.args.room.now) 12 room in
    let read = subst (Consumes _ _) (take_all c.in-Ok.count c.read_full.new.buf (omega (arith, room, c.if-count-lt-FRONT.false)) ∙ sym same) c.in-Ok.ensures.ok in
    let got = c.in-Ok-None.ensures.ok _ read in rw c.in-Ok-None.field-0-is at got

pub returns-in-Err-clause-err : goal.returns-in-Err-clause-err
returns-in-Err-clause-err g c =
    let whole = c.requires in
    let room = c.in-Ok.ensures.room ∙ length-take-le 12 c.args.room.now (omega (arith, whole)) in
    let same : take 12 (c.read_full.new.buf ++ drop 12 c.args.room.now) ≡ c.read_full.new.buf = take_at c.read_full.new.buf (drop 12 c.args.room.now) 12 room in
    let read = subst (Consumes _ _) (take_all c.in-Ok.count c.read_full.new.buf (omega (arith, room, c.if-count-lt-FRONT.false)) ∙ sym same) c.in-Ok.ensures.ok in
    c.in-Err.ensures.err _ read
