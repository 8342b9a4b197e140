use Rattle.std.proofs.Common.{◌≡◌, ◌<◌, ℕ, get_or, refl}
use Rattle.usm_aes.specs.Field.{affine, inverse, product, remainder, sbox}
use Rattle.usm_aes.specs.declared.field.TheConstants.{S_BOX}
use Rattle.usm_aes.proofs.Checks.{agree_below}
use Rattle.usm_aes.proofs.field.substitute.Goals as goal

s_box-is : (x : ℕ) → x < 256 → get_or S_BOX x 0 ≡ sbox x
unfolding inverse product remainder affine
s_box-is = agree_below 256 (λ x. get_or S_BOX x 0) sbox refl

pub returns : goal.returns
returns c = s_box-is c.args.a c.ranges.a.fits
