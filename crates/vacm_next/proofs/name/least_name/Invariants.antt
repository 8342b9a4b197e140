use Rattle.std.proofs.Common.{ℕ, ◌-◌, ◌≤◌, List, length}
use Rattle.snmp_ber.specs.Oid.{AreArcs}
use Rattle.vacm_core.specs.View.{Includes}
use Rattle.vacm_next.specs.Next.{IsBefore, IsUpto}
use Rattle.vacm_next.specs.Opening.{Opens}
use Rattle.vacm_next.proofs.name.least_name.Given as goal

abbrev pub invariant-loop-arcs : goal.invariant-loop-arcs
invariant-loop-arcs l =
    (1 ≤ length l.arcs.items) × Opens l.rows l.arcs.items × IsUpto l.fn.beginning.items l.arcs.items
    × ((other : List ℕ) → AreArcs other → IsUpto l.fn.beginning.items other → IsBefore other l.arcs.items → ¬ Includes l.rows other)

abbrev pub decreases-loop-arcs : goal.decreases-loop-arcs
decreases-loop-arcs l = 128 - length l.arcs.items
