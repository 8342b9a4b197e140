use Rattle.std.proofs.Common.{◌≡◌, ℕ, ◌≤◌, List, ◌++◌, length, take}
use Rattle.vacm_next.specs.Walk.{ComesAfter}
use Rattle.vacm_next.proofs.walk.name_after.Given as goal

abbrev pub invariant-loop-left : goal.invariant-loop-left
invariant-loop-left l = (l.left ≤ length l.name) × ((other rest : List ℕ) → ComesAfter l.name other → other ≡ take l.left l.name ++ rest → ⊥)

abbrev pub decreases-loop-left : goal.decreases-loop-left
decreases-loop-left l = l.left
