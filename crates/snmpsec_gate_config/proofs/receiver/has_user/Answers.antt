use Rattle.std.proofs.Common.{arith, refl, sym}
use Rattle.snmpsec_gate_config.proofs.receiver.has_user.Goals as goal

pub returns-then-is_user_of : goal.returns-then-is_user_of
returns-then-is_user_of c = (c.loop-user.user-index, c.user-item.result, omega arith, sym c.user-item.is, c.if-is_user_of.ensures.0 refl)
