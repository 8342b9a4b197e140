use Rattle.std.proofs.Common.{◌≡◌, ◌+◌, sym, ap, subst, refl}
use Rattle.capture_dumps.specs.Line.{Kind, kind, other, bad}
use Rattle.capture_dumps.specs.Dumps.{Follows, StopsAfter}
use Rattle.capture_dumps.specs.declared.dumps.DumpFault.TheVariants as faults
use Rattle.capture_dumps.proofs.Blocks.{other_follows, stops_bad}
use Rattle.capture_dumps.proofs.dumps.Reading.behind.Goals as goal

pub returns-in_ok-begin_dump-in-Other-clause-ok : goal.returns-in_ok-begin_dump-in-Other-clause-ok
returns-in_ok-begin_dump-in-Other-clause-ok c =
    let e : kind c.args.line.now ≡ other = ap kind c.in-Other.is in
    subst (λ (k : Kind). Follows c.args.self k c.in_ok-begin_dump-in-Other.field-0) (sym e)
    (other_follows c.args.self c.in_ok-begin_dump-in-Other.field-0 c.in_ok-begin_dump-in-Other.ensures.0 c.in_ok-begin_dump-in-Other.ensures.1)

pub returns-in-Bad-clause-err : goal.returns-in-Bad-clause-err
returns-in-Bad-clause-err c =
    let e : kind c.args.line.now ≡ bad = ap kind c.in-Bad.is in
    subst (λ (k : Kind). StopsAfter c.args.place c.args.self k (faults.Unreadable (c.args.place + 1))) (sym e) (stops_bad c.args.self c.args.place (c.args.place + 1) refl)
