use Rattle.std.proofs.Common.{◌<◌, length, arith}
use Rattle.snmpsec_gate_config.proofs.Addresses.{addresses_more, no_addresses}
use Rattle.snmpsec_gate_config.proofs.gate.addresses_in.Goals as goal

pub loop-value-preserved : goal.loop-value-preserved
loop-value-preserved c =
    let lt : c.loop-value.value-index < length c.args.values.now = omega arith in
    addresses_more c.args.values.now c.loop-value.value-index c.value-item.result c.loop-value.addresses.items c.in-Some.address _ c.in_ok-push.ensures.items c.loop-value.invariant c.value-item.is lt c.in-Some.ensures

pub returns-in_default : goal.returns-in_default
returns-in_default c =
    let lt : c.loop-value.value-index < length c.args.values.now = omega arith in
    no_addresses c.args.values.now c.loop-value.value-index c.value-item.result c.value-item.is lt c.in_default.ensures
