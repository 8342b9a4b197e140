use Rattle.std.proofs.Common.{inr}
use Rattle.std.proofs.lemmas.Result.{IfOk-weaker}
use Rattle.snmpsec_output.proofs.Checks.{no_refusal}
use Rattle.snmpsec_output.proofs.Printed.{of_three}
use Rattle.snmpsec_output.proofs.TomlLines.{toml_cause}
use Rattle.snmpsec_output.proofs.check.check_text.Goals as goal

pub returns-in-Ok-read-clause-checks : goal.returns-in-Ok-read-clause-checks
returns-in-Ok-read-clause-checks c =
    let e = c.answer_output.ensures in
    let allowed = c.in-Ok-read.ensures.decides _ _ _ _ c.answer_of.ensures in
    of_three c.answer_output.result (λ output out err status. inr (
      _,
      c.in-Ok.ensures.asks,
      inr (_, _, c.in-Ok-read.ensures.says, record { answer = _; allowed = allowed; out = out; err = err; status = status }),
    ))
    e.out e.err e.status

pub returns-in-Ok-read-clause-toml : goal.returns-in-Ok-read-clause-toml
returns-in-Ok-read-clause-toml c =
    IfOk-weaker c.answer_output.result _ _ (λ output out is. absurd (no_refusal _ (rw out at is))) c.answer_output.ensures.out

pub returns-in-Err-2-clause-toml : goal.returns-in-Err-2-clause-toml
returns-in-Err-2-clause-toml c =
    IfOk-weaker c.refusal.result _ _ (λ output out is utf8. toml_cause c.args.config.now c.in-Err-read.fault c.in-Err-read.ensures.refuses (rw out at is) utf8)
    c.refusal.ensures.out
