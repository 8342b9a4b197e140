use Rattle.std.proofs.Common.{arith}
use Rattle.usm_aes.proofs.Rounds.{round_done}
use Rattle.usm_aes.proofs.cipher.do_round.Goals as goal

pub returns : goal.returns
returns c = λ block before.
    round_done c.args.schedule.now block c.args.state c.mix_lanes.result c.lane_key.result c.args.round c.requires.from_one (omega arith) (omega arith)
    c.lane_key.ensures before c.mix_lanes.ensures
