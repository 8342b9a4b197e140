use Rattle.std.proofs.Common.{◌↔◌}
use Rattle.engine_clock.proofs.Absorbing.{AllHeld}
use Rattle.engine_clock.proofs.clocks.holds_all.Given as goal

-- those that have been looked at are held, so that all are where the ones that are left are
abbrev pub invariant-loop-engine : goal.invariant-loop-engine
invariant-loop-engine l = AllHeld l.clocks l.engine-iterator ↔ AllHeld l.clocks l.marks.entries
