use Rattle.usm_core.proofs.Sealeds.{sealed_one}
use Rattle.usm_core.proofs.laws.one_sealed.Goals as goal

pub returns : goal.returns
returns c = sealed_one c.one_element.ensures.one c.sealing.ensures.one_ciphertext
