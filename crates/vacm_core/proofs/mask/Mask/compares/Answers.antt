use Rattle.std.proofs.Common.{ℕ, ◌≡◌, ◌<◌, ◌≤◌, ◌/◌, ◌%◌, ◌-◌, length, List, arith}
use Rattle.std.proofs.lemmas.Nat.Bits.{bit_at_ones}
use Rattle.std.proofs.lemmas.List.{get_or_past}
use Rattle.vacm_core.specs.Allowed.{mask_bit}
use Rattle.vacm_core.proofs.mask.Mask.compares.Goals as goal

past_end : (mask : List ℕ) (k : ℕ) → length mask ≤ k / 8 → mask_bit mask k ≡ 1
past_end mask k h =
    let low : 7 - k % 8 < 8 = omega arith in
    rw (get_or_past mask (k / 8) 255 h) (bit_at_ones 8 (7 - k % 8) low)

pub returns-in-None : goal.returns-in-None
returns-in-None c =
    let past : length c.args.self.now ≤ c.args.k / 8 = grind (arith, c.in-None.ensures.lookup) in
    let bit = past_end c.args.self.now c.args.k past in
    grind arith
