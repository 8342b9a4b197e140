use Rattle.std.proofs.Common.{◌-◌, ◌≤◌, IfSome, length}
use Rattle.vacm_next.specs.Opening.{IsLowerThan, OpensAt}
use Rattle.vacm_next.proofs.Arcs.{NoneOpensBefore}
use Rattle.vacm_next.proofs.arc.least_at_rows.Given as goal

abbrev pub invariant-loop-place : goal.invariant-loop-place
invariant-loop-place l = record {
  within : l.place ≤ length l.rows;
  first : IsLowerThan l.low l.least → ¬ OpensAt l.rows l.beginning l.low;
  tried : NoneOpensBefore l.rows l.beginning l.low l.least l.place;
  found : IfSome l.least (λ arc. (l.low ≤ arc) × OpensAt l.rows l.beginning arc);
}

abbrev pub decreases-loop-place : goal.decreases-loop-place
decreases-loop-place l = length l.rows - l.place
