use Rattle.std.proofs.Common.{◌-◌, ◌≤◌, length}
use Rattle.vacm_core.specs.View.{NoneUnder}
use Rattle.vacm_core.proofs.under.next_wildcard.Given as goal

abbrev pub invariant-loop-at : goal.invariant-loop-at
invariant-loop-at l = (l.place ≤ l.at) × (l.at ≤ length l.rows) × NoneUnder l.rows l.beginning l.place l.at

abbrev pub decreases-loop-at : goal.decreases-loop-at
decreases-loop-at l = length l.rows - l.at
