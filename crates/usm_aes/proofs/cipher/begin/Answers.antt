use Rattle.std.proofs.Common.{arith}
use Rattle.usm_aes.proofs.Rounds.{begun}
use Rattle.usm_aes.proofs.cipher.begin.Goals as goal

pub returns : goal.returns
returns c = begun c.args.schedule.now c.args.block c.to_tower.result c.lane_key.result (omega arith) (omega arith) c.lane_key.ensures c.to_tower.ensures
