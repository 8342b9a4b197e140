use Rattle.std.proofs.Common.{◌-◌, ◌<◌, length}
use Rattle.vacm_core.proofs.front.count_front.Given as goal

abbrev pub decreases-loop-near : goal.decreases-loop-near
decreases-loop-near g l = length l.items - l.near

abbrev pub invariant-loop-near : goal.invariant-loop-near
invariant-loop-near g l = 0 < l.near
