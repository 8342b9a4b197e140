-- Where each user's name stands.
use Rattle.std.specs.Prelude.{◌≡◌, ℕ, ◌≤◌, ◌<◌, List, length, slice_get, nat_eq, Some}
use Rattle.std.specs.Option.{option_and_then}
use Rattle.std.specs.Map.{lookup}
use Rattle.std.specs.Cmp.Lexicographic.{pointwise}
use Rattle.usm_users.specs.User.{User}
use Rattle.usm_users.specs.Users.{user_named}

-- The entries give the place of each name that a user has, and of no other.
pub record IsIndex (users : List User) (entries : List (List ℕ × ℕ)) : Type 0 where
  pub finds : (name : List ℕ)
      → option_and_then (slice_get users) (lookup (pointwise nat_eq name) entries) ≡ user_named users name
  pub within : (name : List ℕ) (place : ℕ) → lookup (pointwise nat_eq name) entries ≡ Some place → place < length users
  pub short : (name : List ℕ) (user : User) → user_named users name ≡ Some user → length name ≤ 32
