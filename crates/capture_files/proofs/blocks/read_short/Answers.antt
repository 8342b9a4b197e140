use Rattle.std.proofs.Common.{◌-◌, take, drop, arith, subst, ◌∙◌, take_all, length-append, length-take-le, length-drop}
use Rattle.std.specs.Io.KnownBytes.{Consumes}
use Rattle.capture_files.proofs.Fronts.{read_short}
use Rattle.capture_files.proofs.blocks.read_short.Goals as goal

pub returns-clause-ok : goal.returns-clause-ok
returns-clause-ok g c =
    let have = c.requires.have in
    let least = c.requires.least in
    let most = c.requires.most in
    let whole = c.requires.room in
    let front = length-take-le c.args.have c.args.room.now (omega (arith, have, most, whole)) in
    let back = length-drop c.args.have c.args.room.now in
    let room = c.in-Ok.ensures.room ∙ length-take-le (c.args.head.size - c.args.have) (drop c.args.have c.args.room.now) (omega (arith, back, have, most, whole)) in
    let all = length-append (take c.args.have c.args.room.now) c.read_full.new.buf in
    record {
      more = c.read_full.new.buf;
      consumed = subst (Consumes _ _) (take_all c.in-Ok.count c.read_full.new.buf (omega (arith, room, c.if-count-head.false))) c.in-Ok.ensures.ok;
      is = read_short c.args.head (take c.args.have c.args.room.now) c.read_full.new.buf _ _ _ (omega (arith, all, front, room, have)) least most c.read_32.ensures;
    }
