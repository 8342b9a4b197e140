use Rattle.std.proofs.Common.{◌∙◌, ap, arith}
use Rattle.usm_aes.specs.Lanes.{shifted}
use Rattle.usm_aes.proofs.Shifts.{shifted-back}
use Rattle.usm_aes.proofs.lanes.lane_key.Goals as goal

pub returns : goal.returns
returns c =
    ap (shifted c.args.round) (c.to_tower.ensures ∙ c.look_up.ensures) ∙ shifted-back c.args.round c.args.key (omega arith)
