use Rattle.std.proofs.Common.{◌≡◌, ◌<◌, ℕ, List, get_or, refl}
use Rattle.std.specs.Prelude.{bit_xor}
use Rattle.usm_aes.proofs.LaneMaps.{added, added_splat, looked, placed}
use Rattle.usm_aes.proofs.Towers.{stands_for}
use Rattle.usm_aes.specs.Field.{affine, inverse, product, remainder, sbox}
use Rattle.usm_aes.specs.Lanes.{from_tower, left_part, right_part}
use Rattle.usm_aes.specs.declared.lanes.TheConstants.{LEFT_ONCE, LEFT_TWICE, RIGHT_ONCE, RIGHT_TWICE}
use Rattle.usm_aes.proofs.Checks.{agree_below}
use Rattle.usm_aes.proofs.lanes.substitute_in_tower.Goals as goal

-- what two tables give at the parts of the inverse
abbrev of_parts : List ℕ → List ℕ → ℕ → ℕ
of_parts left right t = bit_xor (get_or left (left_part t) 0) (get_or right (right_part t) 0)

once-is : (t : ℕ) → t < 256 → from_tower (bit_xor (of_parts LEFT_ONCE RIGHT_ONCE t) 91) ≡ sbox (from_tower t)
unfolding inverse product remainder affine from_tower
once-is = agree_below 256 (λ t. from_tower (bit_xor (of_parts LEFT_ONCE RIGHT_ONCE t) 91)) (λ t. sbox (from_tower t)) refl

twice-is : (t : ℕ) → t < 256 → from_tower (bit_xor (of_parts LEFT_TWICE RIGHT_TWICE t) 78) ≡ product 2 (sbox (from_tower t))
unfolding inverse product remainder affine from_tower
twice-is = agree_below 256 (λ t. from_tower (bit_xor (of_parts LEFT_TWICE RIGHT_TWICE t) 78)) (λ t. product 2 (sbox (from_tower t))) refl

pub look_up-requires : goal.look_up-requires
look_up-requires c = placed left_part c.args.state _ c.fits-state.1 c.invert.ensures.left refl

pub look_up-requires-2 : goal.look_up-requires-2
look_up-requires-2 c = placed right_part c.args.state _ c.fits-state.1 c.invert.ensures.right refl

pub look_up-requires-3 : goal.look_up-requires-3
look_up-requires-3 c = placed left_part c.args.state _ c.fits-state.1 c.invert.ensures.left refl

pub look_up-requires-4 : goal.look_up-requires-4
look_up-requires-4 c = placed right_part c.args.state _ c.fits-state.1 c.invert.ensures.right refl

pub returns-clause-once : goal.returns-clause-once
returns-clause-once c =
    let v : List ℕ = c.args.state in
    stands_for (λ t. bit_xor (of_parts LEFT_ONCE RIGHT_ONCE t) 91) sbox v _ c.fits-state.1
    (added_splat (of_parts LEFT_ONCE RIGHT_ONCE) 91 v _ c.fits-state.0
    (added (λ t. get_or LEFT_ONCE (left_part t) 0) (λ t. get_or RIGHT_ONCE (right_part t) 0) v _ _
    (looked LEFT_ONCE left_part v _ _ c.invert.ensures.left c.look_up.ensures)
    (looked RIGHT_ONCE right_part v _ _ c.invert.ensures.right c.look_up-2.ensures)))
    once-is

pub returns-clause-twice : goal.returns-clause-twice
returns-clause-twice c =
    let v : List ℕ = c.args.state in
    stands_for (λ t. bit_xor (of_parts LEFT_TWICE RIGHT_TWICE t) 78) (λ octet. product 2 (sbox octet)) v _ c.fits-state.1
    (added_splat (of_parts LEFT_TWICE RIGHT_TWICE) 78 v _ c.fits-state.0
    (added (λ t. get_or LEFT_TWICE (left_part t) 0) (λ t. get_or RIGHT_TWICE (right_part t) 0) v _ _
    (looked LEFT_TWICE left_part v _ _ c.invert.ensures.left c.look_up-3.ensures)
    (looked RIGHT_TWICE right_part v _ _ c.invert.ensures.right c.look_up-4.ensures)))
    twice-is
