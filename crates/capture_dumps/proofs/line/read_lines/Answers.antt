use Rattle.std.proofs.Common.{◌≡◌, [], length, sym, ◌∙◌}
use Rattle.std.proofs.lemmas.Bool.{eqb-true}
use Rattle.std.proofs.lemmas.List.{nil_from_length}
use Rattle.capture_dumps.proofs.LineLists.{lines_more, lines_all}
use Rattle.capture_dumps.proofs.line.read_lines.Goals as goal

pub lines-preserved : goal.lines-preserved
lines-preserved c =
    lines_more c.args.text.now c.lines.rest.now c.first_line.result.0.now c.first_line.result.1.now c.lines.lines.items c.push.new.self.items c.in_ok-read_line.field-0 c.in_ok-push.ensures.items c.first_line.ensures.line c.in_ok-read_line.ensures c.lines.invariant

pub returns : goal.returns
returns c =
    let none : c.lines.rest.now ≡ [] = nil_from_length c.lines.rest.now (eqb-true (length c.lines.rest.now) 0 (sym c.is_empty.ensures ∙ c.lines-test.false)) in
    lines_all c.args.text.now c.lines.rest.now c.lines.lines.items none c.lines.invariant
