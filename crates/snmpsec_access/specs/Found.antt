-- The lines of rows, as they are kept.
use Rattle.std.specs.Prelude.{◌≡◌, ℕ, List, slice_get, Option}
use Rattle.usm_users.specs.declared.load.UserRow.{UserRow}
use Rattle.vacm_core.specs.Tables.{Tables}
use Rattle.snmpsec_config.specs.declared.table.ConfigTable.{ConfigTable}
use Rattle.snmpsec_config.specs.declared.table.ConfigTable.TheVariants as tables
use Rattle.snmpsec_access.specs.Headings.{row_line}
use Rattle.snmpsec_access.specs.declared.headings.RowLines.{RowLines}

-- the line of the row at this position
abbrev pub line_in : RowLines → ConfigTable → ℕ → Option ℕ
line_in of tables.User position = slice_get of.users.items position
line_in of tables.Context position = slice_get of.contexts.items position
line_in of tables.Group position = slice_get of.groups.items position
line_in of tables.Access position = slice_get of.access.items position
line_in of tables.Family position = slice_get of.families.items position

-- They are those of this text, which has these rows.
abbrev pub AreRowLines : List ℕ → List UserRow → Tables → RowLines → Type 0
AreRowLines text users rows of = (table : ConfigTable) → (position : ℕ)
    → line_in of table position ≡ row_line text users rows table position
