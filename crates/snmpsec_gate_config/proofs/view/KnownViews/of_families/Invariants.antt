use Rattle.std.proofs.Common.{take}
use Rattle.snmpsec_gate_config.specs.Views.{AreViewsOf}
use Rattle.snmpsec_gate_config.proofs.view.KnownViews.of_families.Given as goal

abbrev pub invariant-loop-row : goal.invariant-loop-row
invariant-loop-row l = AreViewsOf (take l.row-index l.families) l.known
