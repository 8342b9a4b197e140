use Rattle.std.proofs.Common.{◌≡◌, ◌<◌, ℕ, [], get_or, length}
use Rattle.usm_aes.specs.Lanes.{IsLaneKey}
use Rattle.usm_aes.proofs.key_expansion.fill_lane_keys.Given as goal

-- the keys before this round are written
abbrev pub invariant-loop-round : goal.invariant-loop-round
invariant-loop-round l = (length l.keys ≡ 10) × ((k : ℕ) → k < l.round → IsLaneKey l.words k (get_or l.keys k []))
