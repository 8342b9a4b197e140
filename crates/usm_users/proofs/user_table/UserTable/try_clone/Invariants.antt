use Rattle.std.proofs.Common.{◌≡◌, take}
use Rattle.usm_users.proofs.user_table.UserTable.try_clone.Given as goal

abbrev pub invariant-loop-user : goal.invariant-loop-user
invariant-loop-user l = l.users.items ≡ take l.user-index l.user-items
