use Rattle.std.proofs.Common.{◌≡◌, ℕ, List, ◌++◌, ◌∙◌, ap, take, replicate, sym, subst}
use Rattle.std.proofs.lemmas.List.{append_assoc, take-replicate}
use Rattle.md5.specs.Md5.{md5}
use Rattle.sha1.specs.Sha1.{sha1}
use Rattle.sha2.specs.Sha256.{sha256}
use Rattle.usm_keys.specs.Macs.{hmac, padded, xor_each}
use Rattle.usm_keys.specs.Pads.{ArePads}
use Rattle.usm_keys.specs.Protocols.{block_octets, hash_of}
use Rattle.usm_keys.specs.declared.auth.Auth.{Auth}
use Rattle.usm_keys.specs.declared.pads.Pads.{Pads}
use Rattle.usm_keys.proofs.pads.Pads.hmac.Goals as goal

joined_parts : (a b c d : List ℕ) → a ++ b ++ c ++ d ≡ a ++ (b ++ c ++ d)
joined_parts a b c d = simp append_assoc

pub returns-in-Md5 : goal.returns-in-Md5
returns-in-Md5 c auth key holds =
    let front : List ℕ = c.args.front.now in
    let back : List ℕ = c.args.back.now in
    let gap : List ℕ = replicate c.args.zeros 0 in
    let zeros : take c.args.zeros (replicate 24 0) ≡ gap = take-replicate c.args.zeros 24 0 c.requires in
    let x : List ℕ = front ++ gap ++ back in
    let inner : List ℕ = xor_each 0x36 (padded 64 key) in
    let outer : List ℕ = xor_each 0x5C (padded 64 key) in
    let held = subst (λ (p : Pads). ArePads auth key p) c.in-Md5.is holds in
    c.hash.ensures inner outer held.1 held.2
    ∙ ap (λ (z : List ℕ). md5 (outer ++ md5 (inner ++ front ++ z ++ back))) zeros
    ∙ ap (λ (m : List ℕ). md5 (outer ++ md5 m)) (joined_parts inner front gap back)
    ∙ ap (λ (a : Auth). hmac (hash_of a) (block_octets a) key x) (sym held.0)

pub returns-in-Sha1 : goal.returns-in-Sha1
returns-in-Sha1 c auth key holds =
    let front : List ℕ = c.args.front.now in
    let back : List ℕ = c.args.back.now in
    let gap : List ℕ = replicate c.args.zeros 0 in
    let zeros : take c.args.zeros (replicate 24 0) ≡ gap = take-replicate c.args.zeros 24 0 c.requires in
    let x : List ℕ = front ++ gap ++ back in
    let inner : List ℕ = xor_each 0x36 (padded 64 key) in
    let outer : List ℕ = xor_each 0x5C (padded 64 key) in
    let held = subst (λ (p : Pads). ArePads auth key p) c.in-Sha1.is holds in
    c.hash-in-Sha1.ensures inner outer held.1 held.2
    ∙ ap (λ (z : List ℕ). sha1 (outer ++ sha1 (inner ++ front ++ z ++ back))) zeros
    ∙ ap (λ (m : List ℕ). sha1 (outer ++ sha1 m)) (joined_parts inner front gap back)
    ∙ ap (λ (a : Auth). hmac (hash_of a) (block_octets a) key x) (sym held.0)

pub returns-in-Sha256 : goal.returns-in-Sha256
returns-in-Sha256 c auth key holds =
    let front : List ℕ = c.args.front.now in
    let back : List ℕ = c.args.back.now in
    let gap : List ℕ = replicate c.args.zeros 0 in
    let zeros : take c.args.zeros (replicate 24 0) ≡ gap = take-replicate c.args.zeros 24 0 c.requires in
    let x : List ℕ = front ++ gap ++ back in
    let inner : List ℕ = xor_each 0x36 (padded 64 key) in
    let outer : List ℕ = xor_each 0x5C (padded 64 key) in
    let held = subst (λ (p : Pads). ArePads auth key p) c.in-Sha256.is holds in
    c.hash-in-Sha256.ensures inner outer held.1 held.2
    ∙ ap (λ (z : List ℕ). sha256 (outer ++ sha256 (inner ++ front ++ z ++ back))) zeros
    ∙ ap (λ (m : List ℕ). sha256 (outer ++ sha256 m)) (joined_parts inner front gap back)
    ∙ ap (λ (a : Auth). hmac (hash_of a) (block_octets a) key x) (sym held.0)
