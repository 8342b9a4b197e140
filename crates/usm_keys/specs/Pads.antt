-- What the hashers hold that are kept for a key's codes: the first block of each of the two hashes (RFC 2104,
-- section 2).
use Rattle.std.specs.Prelude.{◌≡◌, ℕ, List}
use Rattle.md5.specs.Md5.{Holds as HoldsMd5}
use Rattle.sha1.specs.Sha1.{Holds as HoldsSha1}
use Rattle.sha2.specs.Hashers.{Holds256}
use Rattle.usm_keys.specs.declared.auth.Auth.{Auth}
use Rattle.usm_keys.specs.declared.auth.Auth.TheVariants.{Md5, Sha1, Sha256}
use Rattle.usm_keys.specs.declared.pads.Pads.{Pads}
use Rattle.usm_keys.specs.declared.pads.Pads.TheVariants as pads
use Rattle.usm_keys.specs.Macs.{padded, xor_each}

-- They are those of this protocol and of a key of these octets.
abbrev pub ArePads : Auth → List ℕ → Pads → Type 0
ArePads auth key (pads.Md5 p) = (auth ≡ Md5) × HoldsMd5 p.inner (xor_each 0x36 (padded 64 key))
    × HoldsMd5 p.outer (xor_each 0x5C (padded 64 key))
ArePads auth key (pads.Sha1 p) = (auth ≡ Sha1) × HoldsSha1 p.inner (xor_each 0x36 (padded 64 key))
    × HoldsSha1 p.outer (xor_each 0x5C (padded 64 key))
ArePads auth key (pads.Sha256 p) = (auth ≡ Sha256) × Holds256 p.inner (xor_each 0x36 (padded 64 key))
    × Holds256 p.outer (xor_each 0x5C (padded 64 key))
