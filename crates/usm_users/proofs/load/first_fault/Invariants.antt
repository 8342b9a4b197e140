use Rattle.std.proofs.Common.{◌≡◌, ℕ, ◌<◌, None}
use Rattle.usm_users.specs.Rows.{fault_at}
use Rattle.usm_users.proofs.load.first_fault.Given as goal

abbrev pub invariant-loop-position : goal.invariant-loop-position
invariant-loop-position l = (i : ℕ) → i < l.position → fault_at l.rows i ≡ None
