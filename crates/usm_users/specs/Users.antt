-- Users, with the keys of their passwords, not yet localised to an engine (RFC 3414, sections 2.1 and 2.6).
--
-- `Known`: the record with the fields `users` and `cache`; of each user the name, the authentication key
-- and the privacy key, not yet localised, both by `ku` with the user's authentication hash. `Supports`:
-- which levels.
use Rattle.std.specs.Prelude.{◌≡◌, ℕ, ◌≤◌, ◌&&◌, List, length, slice_get, Contains, find, nat_eq, Bool, true, Option}
use Rattle.std.specs.Prelude.{Some, IsSomeAnd, is_some}
use Rattle.std.specs.Option.{option_map}
use Rattle.std.specs.Cmp.Lexicographic.{pointwise}
use Rattle.snmp_ber.specs.declared.level.Level.{Level}
use Rattle.snmp_ber.specs.declared.level.Level.TheVariants.{NoAuthNoPriv, AuthNoPriv, AuthPriv}
use Rattle.usm_keys.specs.AuthKey.{AuthKey}
use Rattle.usm_users.specs.User.{User}

-- the user of this name
unfoldable pub user_named : List User → List ℕ → Option User
user_named users name = find (λ user. pointwise nat_eq user.name name) users

-- The user has the keys that the level needs: for authentication its authentication key, for privacy both.
abbrev pub supports : User → Level → Bool
supports user NoAuthNoPriv = true
supports user AuthNoPriv = is_some user.auth
supports user AuthPriv = is_some user.auth && is_some user.privacy

-- There is a user of this name.
abbrev pub HasUser : List User → List ℕ → Type 0
HasUser users name = IsSomeAnd (user_named users name) (λ _. Unit {0})

-- There is a user of this name, and it supports the level.
abbrev pub HasUserAt : List User → List ℕ → Level → Type 0
HasUserAt users name level = IsSomeAnd (user_named users name) (λ user. supports user level ≡ true)

-- The name has 1 to 32 octets, and a privacy key comes with an authentication key of the same hash.
pub record IsUser (user : User) : Type 0 where
  pub named : 1 ≤ length user.name
  pub short : length user.name ≤ 32
  pub one_hash : (key : AuthKey) → user.privacy ≡ Some key → option_map (λ own. own.auth) user.auth ≡ Some key.auth

-- Each of them is a user, and no two have one name.
pub record AreUsers (users : List User) : Type 0 where
  pub each : (user : User) → Contains users user → IsUser user
  pub distinct : (i j : ℕ) (x y : User) → slice_get users i ≡ Some x → slice_get users j ≡ Some y
      → x.name ≡ y.name → i ≡ j
