use Rattle.usm_core.proofs.SealedSizes.{sealed_least, sealed_most}
use Rattle.usm_core.proofs.laws.sealed_size.Goals as goal

pub returns-clause-least : goal.returns-clause-least
returns-clause-least c = λ users m. sealed_least c.message_size.ensures.least c.message_size.ensures.most users m

pub returns-clause-most : goal.returns-clause-most
returns-clause-most c = λ users m text fits. sealed_most c.message_size.ensures.least c.message_size.ensures.most users m fits text
