-- In which line of a configuration a row begins: TOML begins each table of an array by a heading, `[[TABLE]]`.
--
-- `row_line`. The text is cut into `lines`; those that begin with the table's `heading` have numbers from 1
-- (`numbers_of`). Where they are as many as the table has rows (`row_count`), the row at a position begins
-- in the line at that position among them, and else the line isn't known.
use Rattle.std.specs.Prelude.{◌==◌, ℕ, ◌+◌, cond, List, [], ◌∷◌, ◌++◌, length, codes, Option}
use Rattle.std.specs.List.{starts_with, slice_get}
use Rattle.usm_users.specs.declared.load.UserRow.{UserRow}
use Rattle.vacm_core.specs.Tables.{Tables}
use Rattle.snmpsec_config.specs.Keys.{table_name}
use Rattle.snmpsec_config.specs.declared.table.ConfigTable.{ConfigTable}
use Rattle.snmpsec_config.specs.declared.table.ConfigTable.TheVariants as tables

-- lines of which the first has this octet more in front
abbrev pub put_front : ℕ → List (List ℕ) → List (List ℕ)
put_front octet [] = (octet ∷ []) ∷ []
put_front octet (line ∷ later) = (octet ∷ line) ∷ later

-- what stands before each line feed, and behind the last
abbrev pub lines : List ℕ → List (List ℕ)
lines [] = [] ∷ []
lines (octet ∷ text) = cond (octet == 10) ([] ∷ lines text) (put_front octet (lines text))

abbrev pub heading : ConfigTable → List ℕ
heading of = codes "[[" ++ (table_name of ++ codes "]]")

-- the numbers of the lines that begin with this, where the first line has the number n
abbrev pub numbers_of : List ℕ → ℕ → List (List ℕ) → List ℕ
numbers_of begin n [] = []
numbers_of begin n (line ∷ later) =
    cond (starts_with (◌==◌) line begin) (n ∷ numbers_of begin (n + 1) later) (numbers_of begin (n + 1) later)

-- The lines of the headings of a table that has so many rows, from 1, or none where they are not one for each
-- row: then some row is written otherwise, or such a line is part of a text.
abbrev pub row_lines : List ℕ → ConfigTable → ℕ → List ℕ
row_lines text of rows = let numbers = numbers_of (heading of) 1 (lines text) in cond
    (length numbers == rows) numbers []

-- how many rows a table has
abbrev pub row_count : List UserRow → Tables → ConfigTable → ℕ
row_count users rows tables.User = length users
row_count users rows tables.Context = length rows.contexts
row_count users rows tables.Group = length rows.groups
row_count users rows tables.Access = length rows.access
row_count users rows tables.Family = length rows.families

-- the line of the row at this position
abbrev pub row_line : List ℕ → List UserRow → Tables → ConfigTable → ℕ → Option ℕ
row_line text users rows of position = slice_get (row_lines text of (row_count users rows of)) position
