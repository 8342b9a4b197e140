use Rattle.std.proofs.Common.{inr}
use Rattle.std.proofs.lemmas.Result.{IfOk-weaker}
use Rattle.diagnose_text.proofs.reading.counter_text.Goals as goal

pub returns-in-None : goal.returns-in-None
returns-in-None c = IfOk-weaker c.from_str-in-None.result _ _ (λ text is. inr (is, c.in-None.ensures.none)) c.from_str-in-None.ensures.ok
