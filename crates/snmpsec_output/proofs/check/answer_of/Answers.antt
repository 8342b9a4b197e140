use Rattle.snmpsec_output.proofs.check.answer_of.Goals as goal

pub returns : goal.returns
returns c = rw (← c.as_bytes.ensures.value, ← c.as_bytes-2.ensures.value) c.is_access_allowed.ensures.answer
