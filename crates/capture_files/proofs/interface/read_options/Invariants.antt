use Rattle.std.proofs.Common.{ℕ, length}
use Rattle.capture_files.specs.Pcapng.{Say, SayAll}
use Rattle.capture_files.specs.declared.interface.Interface.{Interface}
use Rattle.capture_files.proofs.interface.read_options.Given as goal

abbrev pub invariant-loop-rest : goal.invariant-loop-rest
invariant-loop-rest l = (n : ℕ) (j : Interface) → Say n l.order l.rest l.interface j → SayAll l.fn.order l.fn.octets l.fn.plain j

abbrev pub decreases-loop-rest : goal.decreases-loop-rest
decreases-loop-rest l = length l.rest
