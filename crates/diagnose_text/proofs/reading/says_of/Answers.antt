use Rattle.std.proofs.Common.{refl, arith}
use Rattle.diagnose_text.proofs.reading.says_of.Goals as goal

pub returns : goal.returns
returns c = record {
  report = λ is. absurd (omega (arith, is, c.if-pdu-tag.false, c.tag.ensures.value));
  error = λ has. absurd (cc (c.has_error.ensures.1 has, c.if-has_error.false));
  values = λ _ _. (c.in_ok-values.values, c.in_ok-values.more, refl, c.in_ok-values.ensures);
}
