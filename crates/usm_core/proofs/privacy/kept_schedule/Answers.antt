use Rattle.std.proofs.Common.{◌≡◌, ◌≤◌, ℕ, List, Option, Some, None, IsSomeAnd, length}
use Rattle.usm_keys.specs.AuthKey.{AuthKey}
use Rattle.usm_users.specs.User.{User}
use Rattle.usm_users.specs.Users.{user_named}
use Rattle.usm_users.specs.Cache.{localised_to}
use Rattle.usm_users.proofs.Caching.{localised-least}
use Rattle.usm_core.proofs.privacy.kept_schedule.Goals as goal

least_of_key : (engine : List ℕ) (privacy : Option AuthKey) (local : AuthKey) → IsSomeAnd privacy (λ key. local ≡ localised_to engine key) → 16 ≤ length local.octets
least_of_key engine None local is = absurd is
least_of_key engine (Some key) local is = localised-least engine key local is

least_of_user : (engine : List ℕ) (user : Option User) (local : AuthKey) → IsSomeAnd user (λ user. IsSomeAnd user.privacy (λ key. local ≡ localised_to engine key)) → 16 ≤ length local.octets
least_of_user engine None local is = absurd is
least_of_user engine (Some user) local is = least_of_key engine user.privacy local is

pub schedule-schedule-requires : goal.schedule-schedule-requires
schedule-schedule-requires c =
    least_of_user c.args.engine.now (user_named c.args.users.now c.args.name.now) c.in_ok-find.field-0.now (c.in_ok-find.ensures.cached c.args.users.now c.requires.cache)
