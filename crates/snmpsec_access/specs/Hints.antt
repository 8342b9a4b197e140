-- What is no fault in a row and probably a mistake, as sets over the rows.
--
-- `hints_of users tables`. Of each row of the tables, in their order and by the positions, what is odd of
-- it (`user_hints`, `group_hints`, `access_hints`, `family_hints`), each with its position and the name
-- that it is about. Odd is: a user whom no group row of the user-based model has (`is_user_without_group`);
-- a group that no access row has (`is_group_without_access`); a name of that model that is no user's
-- (`is_name_without_user`); a group that no group row has (`is_group_without_name`); a view that isn't
-- empty and that no family row has (`is_view_without_family`); a write view at noAuthNoPriv
-- (`is_write_without_auth`); a view that no access row names (`is_view_without_access`).
use Rattle.std.specs.Prelude.{ℕ, Bool, true, false, not, ◌&&◌, List, [], ◌∷◌, ◌++◌, map}
use Rattle.std.specs.List.{flat_map, enumerate_from}
use Rattle.snmp_ber.specs.declared.level.Level.{Level}
use Rattle.snmp_ber.specs.declared.level.Level.TheVariants.{NoAuthNoPriv, AuthNoPriv, AuthPriv}
use Rattle.usm_users.specs.declared.load.UserRow.{UserRow}
use Rattle.vacm_core.specs.declared.access.ViewType.{ViewType}
use Rattle.vacm_core.specs.declared.access.ViewType.TheVariants.{Read, Write, Notify}
use Rattle.vacm_core.specs.declared.rows.GroupRow.{GroupRow}
use Rattle.vacm_core.specs.declared.rows.AccessRow.{AccessRow}
use Rattle.vacm_core.specs.declared.rows.FamilyRow.{FamilyRow}
use Rattle.vacm_core.specs.Allowed.{view_name}
use Rattle.vacm_core.specs.Faults.{is_empty}
use Rattle.vacm_core.specs.Tables.{Tables}
use Rattle.snmpsec_access.specs.Names.{is_user, is_user_based, is_grouped, is_group, has_access, has_family, is_named}
use Rattle.snmpsec_access.specs.declared.hint.Hint.{Hint}
use Rattle.snmpsec_access.specs.declared.hint.Oddity.{Oddity}
use Rattle.snmpsec_access.specs.declared.hint.Oddity.TheVariants.{UserWithoutGroup, GroupWithoutAccess}
use Rattle.snmpsec_access.specs.declared.hint.Oddity.TheVariants.{NameWithoutUser, GroupWithoutName}
use Rattle.snmpsec_access.specs.declared.hint.Oddity.TheVariants.{ViewWithoutFamily, WriteWithoutAuth}
use Rattle.snmpsec_access.specs.declared.hint.Oddity.TheVariants.{ViewWithoutAccess}

-- ---- of one row

-- A user whom no group row of the user-based model names: no message of that user may see anything.
abbrev pub is_user_without_group : Tables → UserRow → Bool
is_user_without_group t row = not (is_grouped t.groups row.name.items)

-- A group row whose group no access row has: its name may see nothing.
abbrev pub is_group_without_access : Tables → GroupRow → Bool
is_group_without_access t row = not (has_access t.access row.group)

-- A group row of the user-based model whose name is no user's. (The names of other models are communities and
-- the like.)
abbrev pub is_name_without_user : List UserRow → GroupRow → Bool
is_name_without_user users row = is_user_based row && not (is_user users row.name)

-- An access row whose group no group row has: nobody is in it.
abbrev pub is_group_without_name : Tables → AccessRow → Bool
is_group_without_name t row = not (is_group t.groups row.group)

-- An access row that names a view, and no family row has it. (No name is no view, and is meant.)
abbrev pub is_view_without_family : Tables → ViewType → AccessRow → Bool
is_view_without_family t view row = not (is_empty (view_name view row)) && not
    (has_family t.families (view_name view row))

abbrev pub is_no_auth : Level → Bool
is_no_auth NoAuthNoPriv = true
is_no_auth AuthNoPriv = false
is_no_auth AuthPriv = false

-- An access row that lets a message write which nobody has authenticated.
abbrev pub is_write_without_auth : AccessRow → Bool
is_write_without_auth row = is_no_auth row.level && not (is_empty row.write)

-- A family row whose view no access row names.
abbrev pub is_view_without_access : Tables → FamilyRow → Bool
is_view_without_access t row = not (is_named t.access row.view)

-- ---- of all rows

-- what is odd of the row at this position of its table, and the name that it is about
pub record Told : Type 0 where
  pub what : Oddity
  pub position : ℕ
  pub name : List ℕ

-- what is reported, where it holds
abbrev pub if_so : Bool → Oddity → ℕ → List ℕ → List Told
if_so true what position name = record { what = what; position = position; name = name } ∷ []
if_so false what position name = []

abbrev pub user_hints : Tables → ℕ × UserRow → List Told
user_hints t p = if_so (is_user_without_group t p.1) UserWithoutGroup p.0 p.1.name.items

abbrev pub group_hints : List UserRow → Tables → ℕ × GroupRow → List Told
group_hints users t p =
    if_so (is_group_without_access t p.1) GroupWithoutAccess p.0 p.1.group
    ++ if_so (is_name_without_user users p.1) NameWithoutUser p.0 p.1.name

abbrev pub view_hint : Tables → ViewType → ℕ × AccessRow → List Told
view_hint t view p = if_so (is_view_without_family t view p.1) (ViewWithoutFamily view) p.0 (view_name view p.1)

abbrev pub view_hints : Tables → ℕ × AccessRow → List Told
view_hints t p = view_hint t Read p ++ (view_hint t Write p ++ view_hint t Notify p)

abbrev pub access_hints : Tables → ℕ × AccessRow → List Told
access_hints t p =
    if_so (is_group_without_name t p.1) GroupWithoutName p.0 p.1.group
    ++ (view_hints t p ++ if_so (is_write_without_auth p.1) WriteWithoutAuth p.0 p.1.write)

abbrev pub family_hints : Tables → ℕ × FamilyRow → List Told
family_hints t p = if_so (is_view_without_access t p.1) ViewWithoutAccess p.0 p.1.view

-- what each row of a table becomes, with its position from 0
abbrev pub of_each : {R : Type 0} → (ℕ × R → List Told) → List R → List Told
of_each of_row rows = flat_map of_row (enumerate_from 0 rows)

-- The hints of a configuration: those that hold, in the order of the tables, and in a table by the positions
-- of its rows.
abbrev pub hints_of : List UserRow → Tables → List Told
hints_of users t =
    of_each (user_hints t) users
    ++ (of_each (group_hints users t) t.groups
    ++ (of_each (access_hints t) t.access ++ of_each (family_hints t) t.families))

-- ---- what the values of the code say

abbrev pub told : Hint → Told
told hint = record { what = hint.what; position = hint.position; name = hint.name.now }

abbrev pub all_told : List Hint → List Told
all_told hints = map told hints
