use Rattle.std.proofs.Common.{rules, ◌≡◌, ◌∙◌, ℕ, List, ◌++◌, ap, length, replicate}
use Rattle.usm_keys.specs.Protocols.{mac}
use Rattle.usm_keys.proofs.Sizes.{length-mac}
use Rattle.usm_keys.proofs.kept_key.KeptKey.mac.Goals as goal

pub returns-in-Some-clause-size : goal.returns-in-Some-clause-size
returns-in-Some-clause-size c =
    let key = c.args.self.now in
    let x : List ℕ = c.args.front.now ++ replicate c.args.zeros 0 ++ c.args.back.now in
    let code : c.truncate.new.self.items ≡ mac key.auth key.octets x = search rules in
    ap (λ (octets : List ℕ). length octets) code ∙ length-mac key.auth key.octets x
