use Rattle.std.proofs.Common.{◌≡◌, true, drop, sym, ap, ◌∙◌, arith}
use Rattle.std.proofs.lemmas.Bool.{false≢true}
use Rattle.capture_dumps.specs.Dump.{IsDumpFrom, begins_dump}
use Rattle.capture_dumps.proofs.DumpLines.{behind_is_drop, dump_is, dump_again, nothing_begins, one_more}
use Rattle.capture_dumps.proofs.dump.dump_place.Goals.{else-begins_line-via-then-begins_line+else-begins_dump, else-begins_line-via-else-begins_line}
use Rattle.capture_dumps.proofs.dump.dump_place.Goals as goal

pub returns-then-begins_dump : goal.returns-then-begins_dump
returns-then-begins_dump c =
    let within = c.loop-place-test.true in
    let line = rw c.if-begins_line.true at c.begins_line.ensures in
    let is : begins_dump (drop c.loop-place.place c.args.text.now) ≡ true =
    sym (ap begins_dump (behind_is_drop c.loop-place.place c.args.text.now)) ∙ (sym c.begins_dump.ensures ∙ c.if-begins_dump.true) in (
      omega (arith, within),
      ((line, dump_is _ is), c.loop-place.invariant),
    )

pub loop-place-preserved : goal.loop-place-preserved
loop-place-preserved c =
    one_more (IsDumpFrom c.args.text.now) c.loop-place.place c.loop-place.invariant (elim c.else-begins_line.branch [
      | else-begins_line-via-then-begins_line+else-begins_dump w ↦ λ from. false≢true (sym w.if-begins_dump.false ∙ (w.begins_dump.ensures ∙ (ap begins_dump (behind_is_drop c.loop-place.place c.args.text.now) ∙ dump_again _ from.1)))
      | else-begins_line-via-else-begins_line w ↦ λ from. (rw w.if-begins_line.false at c.begins_line.ensures) from.0
    ])

pub returns : goal.returns
returns c = nothing_begins c.args.text.now c.loop-place.place c.loop-place-test.false c.loop-place.invariant
