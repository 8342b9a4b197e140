use Rattle.snmpsec_output.proofs.explain.decide.Goals as goal

pub returns : goal.returns
returns c = rw (← c.as_bytes.ensures.value, ← c.as_bytes-2.ensures.value, ← c.as_slice.ensures.value) c.explain.ensures.answer
