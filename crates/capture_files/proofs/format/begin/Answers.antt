use Rattle.std.proofs.Common.{arith, inl, sym, ◌∙◌}
use Rattle.capture_files.proofs.format.begin.Goals as goal

pub returns-in-Err-clause-err : goal.returns-in-Err-clause-err
returns-in-Err-clause-err g c unread read =
    let short = c.requires.short in
    record {
      part = c.args.front.now;
      most = omega (arith, short);
      consumed = read;
      stops = inl (sym c.begins_section.ensures ∙ c.if-begins_section.false, c.in-Err.ensures.fault, c.requires.end);
    }
