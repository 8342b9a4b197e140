use Rattle.std.proofs.Common.{take}
use Rattle.toml.specs.View.{items_view}
use Rattle.snmpsec_gate_config.specs.Values.{AreAddressesIn}
use Rattle.snmpsec_gate_config.proofs.gate.addresses_in.Given as goal

abbrev pub invariant-loop-value : goal.invariant-loop-value
invariant-loop-value l = AreAddressesIn (items_view (take l.value-index l.values)) l.addresses.items
