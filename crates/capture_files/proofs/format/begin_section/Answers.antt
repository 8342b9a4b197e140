use Rattle.std.proofs.Common.{◌≡◌, take, arith, subst, refl, ap, sym, ◌∙◌, take_at, inr, Some}
use Rattle.std.specs.Io.KnownBytes.{Consumes}
use Rattle.capture_files.specs.Formats.{IsBlockHead, IsNextBlock, ReadsNone, StopsItem}
use Rattle.capture_files.specs.declared.field.Order.TheVariants.{Big}
use Rattle.capture_files.specs.Pcapng.{nowhere, section_of}
use Rattle.capture_files.proofs.Fronts.{none_headless}
use Rattle.capture_files.proofs.Readings.{begin_item, begin_none, begins_known, long_section, none_begun, stops_begin}
use Rattle.capture_files.proofs.format.begin_section.Goals as goal

pub returns-then-front-lt-HEADER-clause-err : goal.returns-then-front-lt-HEADER-clause-err
returns-then-front-lt-HEADER-clause-err g c unread read =
    let short = c.if-front-lt-HEADER.true in
    let end = c.requires.end short in
    record {
      part = c.args.front.now;
      most = omega (arith, short);
      consumed = read;
      stops = inr (
        begins_known c.args.front.now unread _ read c.requires.begins (long_section c.args.front.now c.requires.begins),
        refl,
        λ rest is. none_begun nowhere c.args.front.now rest c.requires.begins short (rw is at end),
      );
    }

pub returns-in_default-clause-err : goal.returns-in_default-clause-err
returns-in_default-clause-err g c unread read =
    let short = c.requires.short in
    let long = c.if-front-lt-HEADER.false in
    record {
      part = c.args.front.now;
      most = omega (arith, short);
      consumed = read;
      stops = inr (
        begins_known c.args.front.now unread _ read c.requires.begins (long_section c.args.front.now c.requires.begins),
        refl,
        λ rest is. none_headless nowhere c.args.front.now rest (omega (arith, long)) c.in_default.ensures.none,
      );
    }

pub finish_block-requires-clause-head : goal.finish_block-requires-clause-head
finish_block-requires-clause-head g c =
    let short = c.requires.short in
    let long = c.if-front-lt-HEADER.false in
    let same : take 24 c.put_front.new.room ≡ c.args.front.now = ap (take 24) c.put_front.ensures.is ∙ take_at c.args.front.now _ 24 (omega (arith, short, long)) in
    subst (λ f. IsBlockHead Big f c.in-Some.head) (sym same) c.in-Some.ensures.found

pub returns-in-Ok-Some-clause-ok : goal.returns-in-Ok-Some-clause-ok
returns-in-Ok-Some-clause-ok g c unread read =
    let short = c.requires.short in
    let long = c.if-front-lt-HEADER.false in
    let same : take 24 c.put_front.new.room ≡ c.args.front.now = ap (take 24) c.put_front.ensures.is ∙ take_at c.args.front.now _ 24 (omega (arith, short, long)) in
    let begins = begins_known c.args.front.now unread _ read c.requires.begins (long_section c.args.front.now c.requires.begins) in
    let read' = subst (Consumes _ _) (sym same) read in
    let got = c.in-Ok-Some.ensures.ok unread read' in
    let item = rw (c.in-Ok-Some.field-0-is, same) at got in
    begin_item (section_of c.finish_block.new.section) c.args.front.now c.finish_block.new.room unread (g.R.Read.remaining c.finish_block.new.reader) c.in-Ok-Some.item c.requires.begins
    (subst (λ xs. IsNextBlock c.args.front.now (record { order = Big; interfaces = xs }) (section_of c.finish_block.new.section) c.finish_block.new.room unread (g.R.Read.remaining c.finish_block.new.reader) (Some c.in-Ok-Some.item)) c.new.ensures.items item)

pub returns-in-Ok-None-clause-err : goal.returns-in-Ok-None-clause-err
returns-in-Ok-None-clause-err g c unread read =
    let short = c.requires.short in
    let long = c.if-front-lt-HEADER.false in
    let same : take 24 c.put_front.new.room ≡ c.args.front.now = ap (take 24) c.put_front.ensures.is ∙ take_at c.args.front.now _ 24 (omega (arith, short, long)) in
    let begins = begins_known c.args.front.now unread _ read c.requires.begins (long_section c.args.front.now c.requires.begins) in
    let read' = subst (Consumes _ _) (sym same) read in
    let got = c.in-Ok-None.ensures.ok unread read' in
    let none = rw c.in-Ok-None.field-0-is at got in
    begin_none unread (g.R.Read.remaining c.finish_block.new.reader) begins (subst (λ xs. ReadsNone (inr (record { order = Big; interfaces = xs })) unread (g.R.Read.remaining c.finish_block.new.reader)) c.new.ensures.items none)

pub returns-in-Err-clause-err : goal.returns-in-Err-clause-err
returns-in-Err-clause-err g c unread read =
    let short = c.requires.short in
    let long = c.if-front-lt-HEADER.false in
    let same : take 24 c.put_front.new.room ≡ c.args.front.now = ap (take 24) c.put_front.ensures.is ∙ take_at c.args.front.now _ 24 (omega (arith, short, long)) in
    let begins = begins_known c.args.front.now unread _ read c.requires.begins (long_section c.args.front.now c.requires.begins) in
    let read' = subst (Consumes _ _) (sym same) read in
    stops_begin unread (g.R.Read.remaining c.finish_block.new.reader) c.in-Err.fault begins
    (subst (λ xs. StopsItem (inr (record { order = Big; interfaces = xs })) unread (g.R.Read.remaining c.finish_block.new.reader) c.in-Err.fault) c.new.ensures.items (c.in-Err.ensures.err unread read'))
