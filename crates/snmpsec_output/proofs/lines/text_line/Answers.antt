use Rattle.std.proofs.Common.{◌∙◌}
use Rattle.std.proofs.lemmas.Result.{IfOk-weaker}
use Rattle.snmpsec_output.proofs.lines.text_line.Goals as goal

pub returns : goal.returns
returns c = IfOk-weaker c.format.result _ _ (λ text h none. h ∙ rw (c.in_ok-digits.ensures, c.in_ok-note.ensures none)) c.format.ensures.ok
