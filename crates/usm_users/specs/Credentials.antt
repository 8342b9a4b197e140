-- The keys of a user's passwords.
use Rattle.std.specs.Prelude.{Option, Some, None}
use Rattle.usm_keys.specs.AuthKey.{AuthKey}
use Rattle.usm_users.specs.declared.credentials.Credentials.{Credentials}
use Rattle.usm_users.specs.declared.credentials.Credentials.TheVariants as credentials

-- the key for authentication
abbrev pub auth_of : Credentials → Option AuthKey
auth_of credentials.None = None
auth_of (credentials.Auth auth) = Some auth
auth_of (credentials.Private auth privacy) = Some auth

-- the key for privacy
abbrev pub privacy_of : Credentials → Option AuthKey
privacy_of (credentials.Private auth privacy) = Some privacy
privacy_of _ = None
