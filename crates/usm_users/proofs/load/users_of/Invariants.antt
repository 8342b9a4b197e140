use Rattle.std.proofs.Common.{◌≡◌, take, map}
use Rattle.usm_users.specs.Rows.{user_of}
use Rattle.usm_users.proofs.load.users_of.Given as goal

abbrev pub invariant-loop-row : goal.invariant-loop-row
invariant-loop-row l = l.users.items ≡ map user_of (take l.row-index l.rows)
