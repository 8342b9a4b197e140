use Rattle.std.proofs.Common.{rules, inl, inr}
use Rattle.std.proofs.lemmas.Result.{IfOk-weaker}
use Rattle.diagnose_text.proofs.values.integer_of.Goals as goal

pub returns-in-Some : goal.returns-in-Some
returns-in-Some c = inl (c.in-Some.number, (c.read_int.ensures.value c.in-Some.number).0 c.in-Some.is, search rules)

pub returns-in-None : goal.returns-in-None
returns-in-None c =
    IfOk-weaker c.octets_of.result _ _ (λ value is. inr (λ z spells. absurd (cc (c.in-None.is, (c.read_int.ensures.value z).1 spells)), is)) c.octets_of.ensures
