use Rattle.std.proofs.Common.{sym, subst}
use Rattle.usm_users.specs.Users.{AreUsers}
use Rattle.usm_users.proofs.Caching.{none_cached}
use Rattle.usm_users.proofs.Loaded.{users_of_sound}
use Rattle.usm_core.proofs.users.Users.load.Goals as goal

pub invariant_of-result : goal.invariant_of-result
invariant_of-result c = (
  subst AreUsers (sym c.in_ok-table.ensures.users) (users_of_sound c.args.rows.now c.in_ok-table.ensures.sound),
  none_cached c.in_ok-table.table c.in-Ok.cache c.in-Ok.ensures,
)
