use Rattle.std.proofs.Common.{arith, refl, sym}
use Rattle.snmpsec_gate_config.proofs.receiver.has_user_at_level.Goals as goal

pub returns-then-is_user_at_level : goal.returns-then-is_user_at_level
returns-then-is_user_at_level c = (c.loop-user.user-index, c.user-item.result, omega arith, sym c.user-item.is, c.if-is_user_at_level.ensures.0 refl)
