-- What the contracts see of users.
use Rattle.std.specs.Prelude.{List}
use Rattle.usm_keys.specs.AuthKey.{AuthKey}
use Rattle.usm_users.specs.User.{User}
use Rattle.usm_users.specs.declared.cache.KeyId.{KeyId}

-- What a contract sees of `Users`.
pub record Known : Type 0 where
  pub users : List User
  -- the localised keys that are kept, the last used first
  pub cache : List (KeyId × AuthKey)
