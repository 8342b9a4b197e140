use Rattle.std.proofs.Common.{inl, inr, refl}
use Rattle.std.proofs.lemmas.Result.{IfOk-weaker}
use Rattle.diagnose_text.proofs.values.unsigned_of.Goals as goal

pub returns-in-Some : goal.returns-in-Some
returns-in-Some c = inl (c.in-Some.number, (c.read_unsigned.ensures c.in-Some.number).0 c.in-Some.is, refl)

pub returns-in-None : goal.returns-in-None
returns-in-None c =
    IfOk-weaker c.octets_of.result _ _ (λ value is. inr (λ n spells. absurd (cc (c.in-None.is, (c.read_unsigned.ensures n).1 spells)), is)) c.octets_of.ensures
