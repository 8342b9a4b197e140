use Rattle.std.proofs.Common.{length, ap, arith}
use Rattle.snmp_ber.proofs.Identifiers.{subidentifiers_so_far}
use Rattle.snmp_ber.proofs.identifier.push_content.Goals as goal

pub push_groups-requires-in-loop-arc : goal.push_groups-requires-in-loop-arc
push_groups-requires-in-loop-arc c =
    let so_far = subidentifiers_so_far c.split_first-first.result.0 c.split_first-first.result.1.now c.loop-arc.arc-index (omega arith) in
    omega (arith, so_far, ap length c.loop-arc.invariant, c.split_first-first.ensures.most)
