use Rattle.std.proofs.Common.{take}
use Rattle.toml.specs.View.{items_view}
use Rattle.snmpsec_config.specs.Rows.{AreRows}
use Rattle.snmpsec_gate_config.specs.Rows.{IsReceiver}
use Rattle.snmpsec_gate_config.proofs.config.receivers_of.Given as goal

abbrev pub invariant-loop-position : goal.invariant-loop-position
invariant-loop-position l = AreRows IsReceiver (items_view (take l.position l.values)) l.receivers.items
