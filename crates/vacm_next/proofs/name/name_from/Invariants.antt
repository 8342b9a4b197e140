use Rattle.std.proofs.Common.{◌≡◌, ℕ, ◌≤◌, List, ◌++◌, length, take}
use Rattle.snmp_ber.specs.Oid.{AreArcs}
use Rattle.vacm_core.specs.View.{Includes}
use Rattle.vacm_next.specs.Next.{IsUpto}
use Rattle.vacm_next.proofs.name.name_from.Given as goal

abbrev pub invariant-loop-left : goal.invariant-loop-left
invariant-loop-left l =
    (l.left ≤ length l.from)
    × ((other rest : List ℕ) → AreArcs other → IsUpto l.from other → other ≡ take l.left l.from ++ rest → ¬ Includes l.rows other)

abbrev pub decreases-loop-left : goal.decreases-loop-left
decreases-loop-left l = l.left
