use Rattle.std.proofs.Common.{◌≤◌, take, arith, length-take-le, sym, subst, Some, None}
use Rattle.capture_files.specs.Pcapng.{least_size, section_of}
use Rattle.capture_files.proofs.Readings.{stops_rest, none_rest, least_rest, none_meant_rest, item_rest, whole_rest}
use Rattle.capture_files.proofs.blocks.finish_block.Goals as goal

pub returns-in_default-clause-err : goal.returns-in_default-clause-err
returns-in_default-clause-err g c unread read =
    let have = c.requires.have in
    let least = c.requires.front in
    let room = c.requires.room in
    let front = length-take-le c.args.have c.args.room.now (omega (arith, have, room)) in
    stops_rest _ c.args.head (take c.args.have c.args.room.now) _ _ _ (omega (arith, front, least)) c.requires.head read c.in_default.ensures.err

pub returns-then-not-whole-clause-ok : goal.returns-then-not-whole-clause-ok
returns-then-not-whole-clause-ok g c unread read =
    let have = c.requires.have in
    let least = c.requires.front in
    let room = c.requires.room in
    let front = length-take-le c.args.have c.args.room.now (omega (arith, have, room)) in
    none_rest _ c.args.head (take c.args.have c.args.room.now) _ _ _ _ (omega (arith, front, least)) c.requires.head read (rw c.if-not-whole.true at c.in-Ok.ensures.ok)

pub take-requires-clause-least : goal.take-requires-clause-least
take-requires-clause-least g c =
    let have = c.requires.have in
    let least = c.requires.front in
    let room = c.requires.room in
    let front = length-take-le c.args.have c.args.room.now (omega (arith, have, room)) in
    subst (λ n. least_size (take n c.read_rest.new.room) ≤ c.args.head.size) (sym c.min.ensures)
    (least_rest (section_of c.args.section.now) c.args.head (take c.args.have c.args.room.now) c.read_rest.new.room _ _ (omega (arith, front, least)) c.requires.head c.in-Ok.ensures.room (rw c.if-not-whole.false at c.in-Ok.ensures.ok))

pub returns-in-Ok-Record-clause-ok : goal.returns-in-Ok-Record-clause-ok
returns-in-Ok-Record-clause-ok g c unread read =
    let have = c.requires.have in
    let least = c.requires.front in
    let room = c.requires.room in
    let front = length-take-le c.args.have c.args.room.now (omega (arith, have, room)) in
    let got = rw (c.in-Ok-Record.field-0-is, c.min.ensures) at c.in-Ok-Record.ensures.ok in
    item_rest _ _ c.args.head (take c.args.have c.args.room.now) c.read_rest.new.room _ _ _ (Some c.in-Ok-Record.packet) (omega (arith, front, least)) c.requires.head read
    c.in-Ok.ensures.room (rw c.if-not-whole.false at c.in-Ok.ensures.ok) got.0 got.1

pub returns-in-Ok-Nothing-clause-ok : goal.returns-in-Ok-Nothing-clause-ok
returns-in-Ok-Nothing-clause-ok g c unread read =
    let have = c.requires.have in
    let least = c.requires.front in
    let room = c.requires.room in
    let front = length-take-le c.args.have c.args.room.now (omega (arith, have, room)) in
    let got = rw (c.in-Ok-Nothing.field-0-is, c.min.ensures) at c.in-Ok-Nothing.ensures.ok in
    item_rest _ _ c.args.head (take c.args.have c.args.room.now) c.read_rest.new.room _ _ _ None (omega (arith, front, least)) c.requires.head read
    c.in-Ok.ensures.room (rw c.if-not-whole.false at c.in-Ok.ensures.ok) got tt

pub returns-in-Ok-OutOfForm-clause-ok : goal.returns-in-Ok-OutOfForm-clause-ok
returns-in-Ok-OutOfForm-clause-ok g c unread read =
    let have = c.requires.have in
    let least = c.requires.front in
    let room = c.requires.room in
    let front = length-take-le c.args.have c.args.room.now (omega (arith, have, room)) in
    let got = rw (c.in-Ok-OutOfForm.field-0-is, c.min.ensures) at c.in-Ok-OutOfForm.ensures.ok in
    none_meant_rest _ c.args.head (take c.args.have c.args.room.now) c.read_rest.new.room _ _ _ (omega (arith, front, least)) c.requires.head read
    c.in-Ok.ensures.room (rw c.if-not-whole.false at c.in-Ok.ensures.ok) got

pub returns-in-Err-clause-err : goal.returns-in-Err-clause-err
returns-in-Err-clause-err g c unread read =
    let have = c.requires.have in
    let least = c.requires.front in
    let room = c.requires.room in
    let front = length-take-le c.args.have c.args.room.now (omega (arith, have, room)) in
    let got = rw c.min.ensures at c.in-Err.ensures.err in
    whole_rest _ c.args.head (take c.args.have c.args.room.now) c.read_rest.new.room _ _ _ (omega (arith, front, least)) c.requires.head read
    c.in-Ok.ensures.room (rw c.if-not-whole.false at c.in-Ok.ensures.ok) got
