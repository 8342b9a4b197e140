use Rattle.std.proofs.Common.{ℕ, ◌-◌, ◌^◌, ◌<◌, ◌≤◌}
use Rattle.vacm_next.specs.Opening.{OpensAt}
use Rattle.vacm_next.proofs.arc.least_arc.Given as goal

abbrev pub invariant-loop-low : goal.invariant-loop-low
invariant-loop-low l = (l.low ≤ l.arc) × (l.steps ≤ 16) × ((other : ℕ) → l.low ≤ other → other < l.arc → ¬ OpensAt l.rows l.beginning other)

abbrev pub decreases-loop-low : goal.decreases-loop-low
decreases-loop-low l = 2 ^ 32 - l.arc
