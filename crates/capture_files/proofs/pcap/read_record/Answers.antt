use Rattle.std.proofs.Common.{◌++◌, [], take, drop, arith, subst, refl, ◌∙◌, take_all, append-nil, length-append, length-take-le}
use Rattle.std.specs.Io.KnownBytes.{Consumes}
use Rattle.std.proofs.KnownBytes.{Consumes-trans}
use Rattle.capture_files.specs.Pcap.{HasNoRecord}
use Rattle.capture_files.specs.Items.{record_of}
use Rattle.capture_files.proofs.Records.{no_item, none_large, none_cut, none_short, is_record}
use Rattle.capture_files.proofs.pcap.read_record.Goals as goal

pub returns-in_default-clause-err : goal.returns-in_default-clause-err
returns-in_default-clause-err g c =
    let err = c.in_default.ensures.err in
    let room = c.in_default.ensures.room in
    let within = err.1 in
    let part = length-take-le err.0 c.read_full.new.buf (omega (arith, within)) in (
      take err.0 c.read_full.new.buf,
      subst (HasNoRecord c.args.header) (append-nil _) (none_short c.args.header (take err.0 c.read_full.new.buf) [] (omega (arith, part, within, room)) refl),
      omega (arith, part, within, room),
      err.2,
    )

pub returns-then-count-lt-HEAD-clause-ok : goal.returns-then-count-lt-HEAD-clause-ok
returns-then-count-lt-HEAD-clause-ok g c =
    let long = c.in-Ok.ensures.room in
    let bound = c.in-Ok.ensures.bound in
    let part = length-take-le c.in-Ok.count c.read_full.new.buf bound in
    let less = c.if-count-lt-HEAD.true in
    let some = c.if-count-eq0.false in
    let end = c.in-Ok.ensures.end (omega (arith, long, less)) in
    record {
      part = take c.in-Ok.count c.read_full.new.buf;
      some = omega (arith, part, some);
      most = omega (arith, part, less);
      consumed = c.in-Ok.ensures.ok;
      none = λ rest is. no_item c.args.header _ (none_short c.args.header (take c.in-Ok.count c.read_full.new.buf) rest (omega (arith, part, less)) (rw is at end));
    }

pub returns-in_default-read_head-clause-ok : goal.returns-in_default-read_head-clause-ok
returns-in_default-read_head-clause-ok g c =
    let long = c.in-Ok.ensures.room in
    record {
      part = c.read_full.new.buf;
      some = omega (arith, long);
      most = omega (arith, long);
      consumed = subst (Consumes _ _) (take_all c.in-Ok.count c.read_full.new.buf (omega (arith, long, c.if-count-lt-HEAD.false))) c.in-Ok.ensures.ok;
      none = λ rest is. no_item c.args.header _ (none_large c.args.header c.read_full.new.buf rest long c.in_default-read_head.ensures.none);
    }

pub returns-in_default-read_full-clause-err : goal.returns-in_default-read_full-clause-err
returns-in_default-read_full-clause-err g c =
    let long = c.in-Ok.ensures.room in
    let most = c.in-Some.ensures.found.most in
    let room = c.in_default-read_full.ensures.room ∙ length-take-le c.in-Some.head.size c.args.room.now (omega (arith, most, c.requires)) in
    let err = c.in_default-read_full.ensures.err in
    let within = err.1 in
    let said = c.in-Some.ensures.found.size in
    let part = length-take-le err.0 c.read_full-2.new.buf (omega (arith, within)) in
    let whole = length-append c.read_full.new.buf (take err.0 c.read_full-2.new.buf) in (
      c.read_full.new.buf ++ take err.0 c.read_full-2.new.buf,
      subst (HasNoRecord c.args.header) (append-nil _) (none_cut c.args.header c.read_full.new.buf (take err.0 c.read_full-2.new.buf) [] long (omega (arith, part, said, room, within)) refl),
      omega (arith, long, most, room, within, part, whole),
      Consumes-trans _ _ _ _ _ (subst (Consumes _ _) (take_all c.in-Ok.count c.read_full.new.buf (omega (arith, long, c.if-count-lt-HEAD.false))) c.in-Ok.ensures.ok) err.2,
    )

pub returns-then-size-head-clause-ok : goal.returns-then-size-head-clause-ok
returns-then-size-head-clause-ok g c =
    let long = c.in-Ok.ensures.room in
    let found = c.in-Some.ensures.found in
    let most = found.most in
    let said = found.size in
    let less = c.if-size-head.true in
    let room = c.in-Ok-read_full.ensures.room ∙ length-take-le c.in-Some.head.size c.args.room.now (omega (arith, most, c.requires)) in
    let within = c.in-Ok-read_full.ensures.bound in
    let part = length-take-le c.in-Ok-read_full.size c.read_full-2.new.buf within in
    let whole = length-append c.read_full.new.buf (take c.in-Ok-read_full.size c.read_full-2.new.buf) in
    let end = c.in-Ok-read_full.ensures.end (omega (arith, room, less)) in
    record {
      part = c.read_full.new.buf ++ take c.in-Ok-read_full.size c.read_full-2.new.buf;
      some = omega (arith, long, whole);
      most = omega (arith, long, most, less, part, whole);
      consumed = Consumes-trans _ _ _ _ _ (subst (Consumes _ _) (take_all c.in-Ok.count c.read_full.new.buf (omega (arith, long, c.if-count-lt-HEAD.false))) c.in-Ok.ensures.ok)
          c.in-Ok-read_full.ensures.ok;
      none = λ rest is. no_item c.args.header _ (none_cut c.args.header c.read_full.new.buf (take c.in-Ok-read_full.size c.read_full-2.new.buf) rest long (omega (arith, part, said, less)) (rw is at end));
    }

pub returns-clause-ok : goal.returns-clause-ok
returns-clause-ok g c =
    let long = c.in-Ok.ensures.room in
    let found = c.in-Some.ensures.found in
    let most = found.most in
    let begins = found.begins in
    let room = c.in-Ok-read_full.ensures.room ∙ length-take-le c.in-Some.head.size c.args.room.now (omega (arith, most, c.requires)) in
    let whole = length-append c.read_full.new.buf c.read_full-2.new.buf in
    record {
      octets = c.read_full.new.buf ++ c.read_full-2.new.buf;
      is_item = (
        record_of c.in-Some.head (c.read_full-2.new.buf ++ drop c.in-Some.head.size c.args.room.now),
        is_record c.args.header c.read_full.new.buf c.read_full-2.new.buf (drop c.in-Some.head.size c.args.room.now) c.in-Some.head long found room,
        refl,
        refl,
      );
      size = whole ∙ omega (arith, long, room);
      least = omega arith;
      most = omega (arith, most);
      within = omega (arith, begins, most);
      consumed = Consumes-trans _ _ _ _ _ (subst (Consumes _ _) (take_all c.in-Ok.count c.read_full.new.buf (omega (arith, long, c.if-count-lt-HEAD.false))) c.in-Ok.ensures.ok)
          (subst (Consumes _ _) (take_all c.in-Ok-read_full.size c.read_full-2.new.buf (omega (arith, room, c.if-size-head.false))) c.in-Ok-read_full.ensures.ok);
    }
