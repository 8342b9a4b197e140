-- What the code knows of the names that rows have.
use Rattle.std.specs.Prelude.{◌≡◌, ℕ, Bool, List}
use Rattle.std.specs.Str.{bytes_eq}
use Rattle.std.specs.HashSet.{contains_by}
use Rattle.vacm_core.specs.Tables.{Tables, tables_of}
use Rattle.usm_users.specs.declared.load.UserRow.{UserRow}
use Rattle.snmpsec_access.specs.declared.names.Names.{Names}
use Rattle.snmpsec_access.specs.declared.known.Known.{Known}
use Rattle.snmpsec_access.specs.Names.{is_user, is_grouped, is_group, has_access, has_family, is_named}

-- The name is among these.
abbrev pub has : Names → List ℕ → Bool
has names name = contains_by (λ key. bytes_eq name key.now) names.octets

-- These are the names of which the test holds.
abbrev pub AreThose : Names → (List ℕ → Bool) → Type 0
AreThose names test = (name : List ℕ) → has names name ≡ test name

abbrev pub users_of : Known → List UserRow
users_of known = known.rows.now.users.items

abbrev pub rows_of : Known → Tables
rows_of known = tables_of known.rows.now.access

-- Each set has the names that its rows have.
pub record IsKnown (known : Known) : Type 0 where
  pub users : AreThose known.users (is_user (users_of known))
  pub grouped : AreThose known.grouped (is_grouped (rows_of known).groups)
  pub groups : AreThose known.groups (is_group (rows_of known).groups)
  pub with_access : AreThose known.with_access (has_access (rows_of known).access)
  pub with_family : AreThose known.with_family (has_family (rows_of known).families)
  pub named : AreThose known.named (is_named (rows_of known).access)
