use Rattle.std.proofs.Common.{inr}
use Rattle.snmpsec_output.proofs.Printed.{of_three}
use Rattle.snmpsec_output.proofs.explain.explain_text.Goals as goal

pub returns-in-Ok-read : goal.returns-in-Ok-read
returns-in-Ok-read c =
    let e = c.answer_and_rows.ensures in
    let allowed = c.in-Ok-read.ensures.decides _ _ _ _ c.decide-explained.ensures in
    of_three c.answer_and_rows.result (λ output out err status. inr (
      _,
      c.in-Ok.ensures.asks,
      inr (_, _, c.in-Ok-read.ensures.says, record { answer = _; allowed = allowed; decided = out.0; out = out.1; err = err; status = status }),
    ))
    e.out e.err e.status
