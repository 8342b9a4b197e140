use Rattle.std.proofs.Common.{arith}
use Rattle.usm_aes.proofs.Rounds.{finished}
use Rattle.usm_aes.proofs.cipher.finish.Goals as goal

pub returns : goal.returns
returns c = λ block before.
    finished c.args.schedule.now block c.args.state c.end_lanes.result c.round_key.result (omega arith) c.round_key.ensures before c.end_lanes.ensures
