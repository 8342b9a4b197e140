use Rattle.std.proofs.Common.{ap, arith, length}
use Rattle.snmp_forward.specs.Queue.{waitings_of}
use Rattle.snmp_forward.proofs.laws.no_notification_vanishes.Goals as goal

pub returns : goal.returns
returns c before f n stands some empty =
    let w = stands.queue.kept n some in
    absurd (omega (arith, w.1.1, ap (λ ws. length (waitings_of ws)) empty))
