use Rattle.std.proofs.Common.{IfSome, Contains}
use Rattle.snmpsec_output.proofs.choices.nearest.Given as goal

abbrev pub invariant-loop-known : goal.invariant-loop-known
invariant-loop-known l = IfSome l.near (Contains l.words)
