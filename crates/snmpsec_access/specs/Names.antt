-- Which names the rows of a configuration have.
--
-- Some row of a table has the name.
use Rattle.std.specs.Prelude.{ℕ, Bool, ◌==◌, ◌&&◌, ◌||◌, List}
use Rattle.std.specs.List.{list_any}
use Rattle.std.specs.Str.{bytes_eq}
use Rattle.usm_users.specs.declared.load.UserRow.{UserRow}
use Rattle.vacm_core.specs.declared.rows.GroupRow.{GroupRow}
use Rattle.vacm_core.specs.declared.rows.AccessRow.{AccessRow}
use Rattle.vacm_core.specs.declared.rows.FamilyRow.{FamilyRow}

-- Some user has the name.
abbrev pub is_user : List UserRow → List ℕ → Bool
is_user users name = list_any (λ row. bytes_eq name row.name.items) users

-- The row is of the user-based security model (3, RFC 3411, section 5).
abbrev pub is_user_based : GroupRow → Bool
is_user_based row = row.model == 3

-- Some group row of the user-based model has the name: it is in a group.
abbrev pub is_grouped : List GroupRow → List ℕ → Bool
is_grouped groups name = list_any (λ row. is_user_based row && bytes_eq name row.name) groups

-- Some group row has the group: someone is in it.
abbrev pub is_group : List GroupRow → List ℕ → Bool
is_group groups group = list_any (λ row. bytes_eq group row.group) groups

-- Some access row has the group.
abbrev pub has_access : List AccessRow → List ℕ → Bool
has_access access group = list_any (λ row. bytes_eq group row.group) access

-- Some family row has the view.
abbrev pub has_family : List FamilyRow → List ℕ → Bool
has_family families view = list_any (λ row. bytes_eq view row.view) families

-- Some access row names the view, for reads, writes or notifications.
abbrev pub is_named : List AccessRow → List ℕ → Bool
is_named access view = list_any
    (λ row. bytes_eq view row.read || bytes_eq view row.write || bytes_eq view row.notify) access
