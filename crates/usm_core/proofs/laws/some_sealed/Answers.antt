use Rattle.usm_core.proofs.Determined.{some_text}
use Rattle.usm_core.proofs.laws.some_sealed.Goals as goal

pub returns : goal.returns
returns c users m fits ok = some_text users m c.sealing.ensures.some_ciphertext fits ok
