-- Rows of users: which of them is refused, and which users the others make.
use Rattle.std.specs.Prelude.{◌≡◌, ℕ, ◌<◌, ◌||◌, ◌&&◌, ◌==◌, nat_lt, nat_eq, if◌then◌else◌, Bool, false, List, length}
use Rattle.std.specs.Prelude.{take, slice_get, Option, Some, None, is_some, is_none}
use Rattle.std.specs.List.{list_any}
use Rattle.std.specs.Option.{option_map, option_map_or, option_and_then}
use Rattle.std.specs.Cmp.Lexicographic.{pointwise}
use Rattle.usm_keys.specs.declared.auth.Auth.{Auth}
use Rattle.usm_keys.specs.AuthKey.{AuthKey}
use Rattle.usm_keys.specs.Keys.{ku}
use Rattle.usm_keys.specs.Protocols.{hash_of}
use Rattle.usm_users.specs.User.{User}
use Rattle.usm_users.specs.declared.load.UserRow.{UserRow}
use Rattle.usm_users.specs.declared.load.UserFault.{UserFault}
use Rattle.usm_users.specs.declared.load.UserFault.TheVariants.{DuplicateUser, ShortPassword, BadUser, OutOfMemory}

-- ---- what is wrong with a row

-- the name doesn't have 1 to 32 octets (msgUserName, RFC 3414, section 2.4)
abbrev pub is_bad_name : List ℕ → Bool
is_bad_name name = (length name == 0) || nat_lt 32 (length name)

-- the name isn't one, or there is a privacy password and none for authentication
abbrev pub is_bad_user : UserRow → Bool
is_bad_user row = is_bad_name row.name.items || (is_some row.privacy && is_none row.auth)

-- a password has at least 8 octets (RFC 3414, section 11.2)
abbrev pub is_short_password : List ℕ → Bool
is_short_password password = nat_lt (length password) 8

abbrev pub has_short_password : UserRow → Bool
has_short_password row =
    option_map_or (λ own. is_short_password own.1.items) row.auth false || option_map_or
    (λ password. is_short_password password.items) row.privacy false

abbrev pub has_name : List ℕ → UserRow → Bool
has_name name row = pointwise nat_eq row.name.items name

-- What is wrong with the row at this place, where these are the rows before it: of several faults the first
-- in the order BadUser, ShortPassword, DuplicateUser.
unfoldable pub row_fault : List UserRow → ℕ → UserRow → Option UserFault
row_fault earlier position row =
    if is_bad_user row then Some (BadUser position)
    else if has_short_password row then Some (ShortPassword position)
    else if list_any (has_name row.name.items) earlier then Some (DuplicateUser position)
    else None

abbrev pub fault_at : List UserRow → ℕ → Option UserFault
fault_at rows position = option_and_then (row_fault (take position rows) position) (slice_get rows position)

-- ---- the first row at fault

-- No row is at fault.
abbrev pub AreSound : List UserRow → Type 0
AreSound rows = (i : ℕ) → fault_at rows i ≡ None

-- This is what is wrong with the first row at fault.
pub record IsFirstFault (rows : List UserRow) (fault : UserFault) : Type 0 where
  pub position : ℕ
  pub there : fault_at rows position ≡ Some fault
  pub none_before : (i : ℕ) → i < position → fault_at rows i ≡ None

-- OutOfMemory is reported only where no row is at fault.
abbrev pub IsTold : List UserRow → UserFault → Type 0
IsTold rows (BadUser position) = IsFirstFault rows (BadUser position)
IsTold rows (ShortPassword position) = IsFirstFault rows (ShortPassword position)
IsTold rows (DuplicateUser position) = IsFirstFault rows (DuplicateUser position)
IsTold rows OutOfMemory = AreSound rows

-- ---- the users of rows

-- the key of a password (RFC 3414, section A.2)
abbrev pub key_of : Auth → List ℕ → AuthKey
key_of auth password = record { auth = auth; octets = ku (hash_of auth) password }

-- The user that a row says. Both of its keys are made with the hash of its authentication.
abbrev pub user_of : UserRow → User
user_of row = record {
  name = row.name.items;
  auth = option_map (λ own. key_of own.0 own.1.items) row.auth;
  privacy = option_and_then (λ own. option_map (λ password. key_of own.0 password.items) row.privacy) row.auth;
}
