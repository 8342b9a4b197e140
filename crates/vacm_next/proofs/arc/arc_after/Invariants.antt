use Rattle.std.proofs.Common.{◌-◌, ◌≤◌, IfSome, length}
use Rattle.vacm_next.proofs.Arcs.{NoneCompares}
use Rattle.vacm_next.proofs.arc.arc_after.Given as goal

abbrev pub invariant-loop-place : goal.invariant-loop-place
invariant-loop-place l =
    (l.place ≤ length l.rows) × NoneCompares l.rows l.beginning l.arc l.least l.place × IfSome l.least (λ other. l.arc ≤ other)

abbrev pub decreases-loop-place : goal.decreases-loop-place
decreases-loop-place l = length l.rows - l.place
