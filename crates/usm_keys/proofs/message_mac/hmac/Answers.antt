use Rattle.std.proofs.Common.{◌∙◌, ap, length, ℕ, List}
use Rattle.usm_keys.proofs.Sizes.{length-hash_of}
use Rattle.usm_keys.proofs.message_mac.hmac.Goals as goal

pub returns-clause-size : goal.returns-clause-size
returns-clause-size c = ap (λ (xs : List ℕ). length xs) (c.hmac.ensures c.args.auth c.args.key.now c.of.ensures) ∙ length-hash_of c.args.auth _
