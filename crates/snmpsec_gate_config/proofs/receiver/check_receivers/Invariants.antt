use Rattle.std.proofs.Common.{◌<◌, ℕ}
use Rattle.snmpsec_gate_config.specs.Receivers.{IsFitAt}
use Rattle.snmpsec_gate_config.proofs.receiver.check_receivers.Given as goal

abbrev pub invariant-loop-position : goal.invariant-loop-position
invariant-loop-position l = (k : ℕ) → k < l.position → IsFitAt l.users l.receivers k
