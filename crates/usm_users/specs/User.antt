-- A user, as contracts see it.
use Rattle.std.specs.Prelude.{ℕ, List, Option}
use Rattle.usm_keys.specs.AuthKey.{AuthKey}

-- Its name, and the keys of its passwords, not yet localised to an engine (RFC 3414, sections 2.1 and 2.6).
pub record User : Type 0 where
  pub name : List ℕ
  pub auth : Option AuthKey
  pub privacy : Option AuthKey
