-- Localised keys that are kept (RFC 3414, section 2.6).
--
-- `AreCached users entries` (RFC 3414, section 2.6). Each entry is a user name, an engine ID and a purpose,
-- with the key that this user has for this purpose, localised to this engine. `IsIndex users entries`
-- (`Index`): the entries give the place of each name that a user has, and of no other.
use Rattle.std.specs.Prelude.{◌≡◌, ℕ, List, Option, Contains, IsSomeAnd, take}
use Rattle.usm_keys.specs.AuthKey.{AuthKey}
use Rattle.usm_keys.specs.Keys.{kul}
use Rattle.usm_keys.specs.Protocols.{hash_of}
use Rattle.usm_aes.specs.Aes.{schedule}
use Rattle.usm_users.specs.User.{User}
use Rattle.usm_users.specs.declared.cache.KeyId.{KeyId}
use Rattle.usm_users.specs.declared.cache.Purpose.{Purpose}
use Rattle.usm_users.specs.declared.cache.Purpose.TheVariants.{Authentication, Privacy}
use Rattle.usm_users.specs.Users.{user_named}

abbrev pub key_id : List ℕ → List ℕ → Purpose → KeyId
key_id name engine purpose = record { user = name; engine = engine; purpose = purpose }

-- the key localised to the engine
abbrev pub localised_to : List ℕ → AuthKey → AuthKey
localised_to engine key = record { auth = key.auth; octets = kul (hash_of key.auth) key.octets engine }

-- the first 16 octets of the key localised to the engine, expanded (RFC 3826, section 3.1.2.1)
abbrev pub schedule_at : List ℕ → AuthKey → List (List ℕ)
schedule_at engine key = schedule (take 16 (kul (hash_of key.auth) key.octets engine))

-- the user's key for this purpose
abbrev pub key_for : Purpose → User → Option AuthKey
key_for Authentication user = user.auth
key_for Privacy user = user.privacy

-- The key is that of the user, for the purpose, localised to the engine.
abbrev pub IsCachedAt : List User → KeyId → AuthKey → Type 0
IsCachedAt users id local = IsSomeAnd (user_named users id.user)
    (λ user. IsSomeAnd (key_for id.purpose user) (λ key. local ≡ localised_to id.engine key))

-- Each of them is what its user, engine and purpose say.
abbrev pub AreCached : List User → List (KeyId × AuthKey) → Type 0
AreCached users entries = (e : KeyId × AuthKey) → Contains entries e → IsCachedAt users e.0 e.1
