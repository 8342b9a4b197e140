use Rattle.std.specs.Prelude.{IfSome, Contains}
use Rattle.snmpsec_gate_config.specs.Keys.{listed}
use Rattle.snmpsec_gate_config.proofs.near.nearest.Given as goal

abbrev pub invariant-loop-key : goal.invariant-loop-key
invariant-loop-key l = IfSome l.near (Contains (listed l.fn.table))
