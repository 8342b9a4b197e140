-- What a configuration is, and why a text is none.
--
-- `Says text users rows`, `SaysSound`, `Loads text users tables`. The text is TOML whose document stands
-- for these rows; none of them is at fault; and these users and tables are what they load to.
--
-- `Refuses text fault`, `RefusesText`. The cause of the fault holds of the text, and it isn't out of
-- memory. `TellsKey`: the first key of a row at fault. `refusal_line`: the line that is printed.
use Rattle.std.specs.Prelude.{◌≡◌, ◌≢◌, ⊤, ℕ, List, ◌++◌, codes, decimal, map, if◌then◌else◌, Some, None, IsUtf8}
use Rattle.toml.specs.Data.{Members, table, get_item}
use Rattle.snmpsec_config.specs.declared.rows.RowFault.{RowFault}
use Rattle.snmpsec_config.specs.declared.rows.RowFault.TheVariants as row_faults
use Rattle.toml.specs.Parse.{parse_document}
use Rattle.usm_users.specs.declared.load.UserRow.{UserRow}
use Rattle.usm_users.specs.declared.load.UserFault.{UserFault}
use Rattle.usm_users.specs.declared.load.UserFault.TheVariants as user_faults
use Rattle.usm_users.specs.Rows as user_rows
use Rattle.usm_users.specs.User.{User as AUser}
use Rattle.vacm_core.specs.Tables.{Tables, HaveSameRows}
use Rattle.vacm_core.specs.Faults as access_rows
use Rattle.vacm_core.specs.declared.fault.Table.{Table}
use Rattle.vacm_core.specs.declared.fault.Table.TheVariants as vacm_tables
use Rattle.vacm_core.specs.declared.fault.VacmFault.{VacmFault}
use Rattle.vacm_core.specs.declared.fault.VacmFault.TheVariants as vacm_faults
use Rattle.snmpsec_config.specs.declared.table.ConfigTable.{ConfigTable}
use Rattle.snmpsec_config.specs.declared.table.ConfigTable.TheVariants.{User, Context, Group, Access, Family}
use Rattle.snmpsec_config.specs.declared.fault.LoadFault.{LoadFault}
use Rattle.snmpsec_config.specs.declared.fault.LoadFault.TheVariants.{BadUser, ShortPassword, DuplicateUser, BadRow}
use Rattle.snmpsec_config.specs.declared.fault.LoadFault.TheVariants.{Duplicate}
use Rattle.snmpsec_config.specs.declared.fault.KeyFault.{KeyFault}
use Rattle.snmpsec_config.specs.declared.fault.KeyFault.TheVariants.{Unlisted, Missing, Value}
use Rattle.snmpsec_config.specs.declared.fault.ConfigFault.{ConfigFault}
use Rattle.snmpsec_config.specs.declared.fault.ConfigFault.TheVariants as faults
use Rattle.snmpsec_config.specs.Keys.{at, HasOnlyListed, IsFirstUnlisted, table_name}
use Rattle.snmpsec_config.specs.Values.{IsFirstWrong}
use Rattle.snmpsec_config.specs.declared.keys.ValueFault.{ValueFault}
use Rattle.snmpsec_config.specs.Nesting.{IsShallow, IsTooDeepAt}
use Rattle.snmpsec_config.specs.Documents.{IsBadTop, StandsFor, IsBadKeyAt, IsFirstBad, values_of}
use Rattle.std.specs.Prelude.{string_bytes}

-- The text is TOML, in UTF-8, of this document, and at most 16 of its brackets are open at a time.
pub record IsDocument (text : List ℕ) (document : Members) : Type 0 where
  pub utf8 : IsUtf8 text
  pub shallow : IsShallow text
  pub parsed : parse_document text ≡ Some document

-- The text stands for these rows.
pub record Says (text : List ℕ) (users : List UserRow) (rows : Tables) : Type 0 where
  pub document : Members
  pub is_document : IsDocument text document
  pub stands : StandsFor document users rows

-- The text stands for these rows, and none of them is at fault.
pub record SaysSound (text : List ℕ) (users : List UserRow) (rows : Tables) : Type 0 where
  pub says : Says text users rows
  pub sound_users : user_rows.AreSound users
  pub sound_rows : access_rows.AreSound rows

-- The text stands for rows that load, as these users and these tables.
pub record Loads (text : List ℕ) (loaded : List AUser) (tables : Tables) : Type 0 where
  pub users : List UserRow
  pub rows : Tables
  pub sound : SaysSound text users rows
  pub same_users : loaded ≡ map user_rows.user_of users
  pub same_rows : HaveSameRows rows tables

-- What is said of a row's keys, the first that is at fault: one that isn't listed, in the order of the keys;
-- or else a listed one that is missing, or whose value isn't what is wanted there, in the order in which the
-- table lists them.
abbrev pub TellsKey : ConfigTable → Members → KeyFault → Type 0
TellsKey of row (Unlisted key) = IsFirstUnlisted of row (string_bytes key)
TellsKey of row (Missing key) = HasOnlyListed of row × IsFirstWrong of row key × (at row key ≡ None)
TellsKey of row (Value key) = HasOnlyListed of row × IsFirstWrong of row key × (at row key ≢ None)

-- what is wrong with a row of users, or of view-based access
abbrev pub TellsUser : List UserRow → ℕ → LoadFault → Type 0
TellsUser users position BadUser = user_rows.IsFirstFault users (user_faults.BadUser position)
TellsUser users position ShortPassword = user_rows.IsFirstFault users (user_faults.ShortPassword position)
TellsUser users position DuplicateUser = user_rows.IsFirstFault users (user_faults.DuplicateUser position)
TellsUser users position BadRow = ⊥
TellsUser users position Duplicate = ⊥

abbrev pub TellsAccess : Tables → Table → ℕ → LoadFault → Type 0
TellsAccess rows of position BadRow = access_rows.IsTold rows (vacm_faults.BadRow of position)
TellsAccess rows of position Duplicate = access_rows.IsTold rows (vacm_faults.Duplicate of position)
TellsAccess rows of position BadUser = ⊥
TellsAccess rows of position ShortPassword = ⊥
TellsAccess rows of position DuplicateUser = ⊥

-- a row of view-based access is at fault, and none of users
abbrev pub TellsLoaded : List UserRow → Tables → Table → ℕ → LoadFault → Type 0
TellsLoaded users rows of position wrong = user_rows.AreSound users × TellsAccess rows of position wrong

abbrev pub TellsRow : List UserRow → Tables → ConfigTable → ℕ → LoadFault → Type 0
TellsRow users rows User position wrong = TellsUser users position wrong
TellsRow users rows Context position wrong = TellsLoaded users rows vacm_tables.Contexts position wrong
TellsRow users rows Group position wrong = TellsLoaded users rows vacm_tables.Groups position wrong
TellsRow users rows Access position wrong = TellsLoaded users rows vacm_tables.Access position wrong
TellsRow users rows Family position wrong = TellsLoaded users rows vacm_tables.Families position wrong

-- The key at fault stands in the table at this position.
abbrev pub TellsKeyAt : Members → ConfigTable → ℕ → KeyFault → Type 0
TellsKeyAt document of position fault = (row : Members)
    × (get_item position (values_of document of) ≡ Some (table row)) × TellsKey of row fault

-- What a refusal says of the document, in the order of looking.
abbrev pub RefusesDocument : Members → ConfigFault → Type 0
RefusesDocument document (faults.Nested line column) = ⊥
RefusesDocument document (faults.Toml fault) = ⊥
RefusesDocument document (faults.Top key) = IsBadTop document (string_bytes key)
RefusesDocument document (faults.BadKey of position fault) = IsBadKeyAt document of position
    × TellsKeyAt document of position fault
RefusesDocument document (faults.Row of position wrong) = (users : List UserRow) × (rows : Tables)
    × StandsFor document users rows × TellsRow users rows of position wrong
RefusesDocument document faults.OutOfMemory = ⊤

-- What a refusal says of a text that is no document: a bracket too many, or no TOML; or that memory ran out.
abbrev pub TellsNoDocument : List ℕ → ConfigFault → Type 0
TellsNoDocument text (faults.Nested line column) = IsUtf8 text × IsTooDeepAt text line column
TellsNoDocument text (faults.Toml fault) = IsUtf8 text → IsShallow text × (parse_document text ≡ None)
TellsNoDocument text faults.OutOfMemory = ⊤
TellsNoDocument text _ = ⊥

-- What a refusal says of the text: the first cause, or that memory ran out.
abbrev pub Refuses : List ℕ → ConfigFault → Type 0
Refuses text (faults.Nested line column) = IsUtf8 text × IsTooDeepAt text line column
Refuses text (faults.Toml fault) = IsUtf8 text → IsShallow text × (parse_document text ≡ None)
Refuses text faults.OutOfMemory = ⊤
Refuses text fault = (document : Members) × IsDocument text document × RefusesDocument document fault

abbrev pub vacm_table : Table → ConfigTable
vacm_table vacm_tables.Contexts = Context
vacm_table vacm_tables.Groups = Group
vacm_table vacm_tables.Access = Access
vacm_table vacm_tables.Families = Family

abbrev pub user_refusal : UserFault → ConfigFault
user_refusal (user_faults.BadUser position) = faults.Row User position BadUser
user_refusal (user_faults.ShortPassword position) = faults.Row User position ShortPassword
user_refusal (user_faults.DuplicateUser position) = faults.Row User position DuplicateUser
user_refusal user_faults.OutOfMemory = faults.OutOfMemory

abbrev pub vacm_refusal : VacmFault → ConfigFault
vacm_refusal (vacm_faults.BadRow of position) = faults.Row (vacm_table of) position BadRow
vacm_refusal (vacm_faults.Duplicate of position) = faults.Row (vacm_table of) position Duplicate
vacm_refusal vacm_faults.OutOfMemory = faults.OutOfMemory

-- ---- between the calls

-- What is reported of a row's keys where it stands for no row.
abbrev pub TellsNoRow : {R : Type 0} → ConfigTable → (Members → R → Type 0) → Members → RowFault → Type 0
TellsNoRow {R} of Stands row (row_faults.Key fault) = TellsKey of row fault × ((made : R) → ¬ Stands row made)
TellsNoRow {R} of Stands row row_faults.OutOfMemory = ⊤

abbrev pub TellsUnlisted : ConfigTable → Members → RowFault → Type 0
TellsUnlisted of row (row_faults.Key (Unlisted key)) = IsFirstUnlisted of row (string_bytes key)
TellsUnlisted of row (row_faults.Key (Missing key)) = ⊥
TellsUnlisted of row (row_faults.Key (Value key)) = ⊥
TellsUnlisted of row row_faults.OutOfMemory = ⊤

-- What is reported of the tables of one array.
abbrev pub TellsBadRow : {R : Type 0} → ConfigTable → (Members → R → Type 0) → Members → ConfigFault → Type 0
TellsBadRow of Stands document (faults.BadKey name position fault) =
    (name ≡ of) × IsFirstBad Stands (values_of document of) position × TellsKeyAt document of position fault
TellsBadRow of Stands document faults.OutOfMemory = ⊤
TellsBadRow of Stands document _ = ⊥

-- a fault of the value at a key
abbrev pub key_fault : ValueFault → KeyFault
key_fault fault = if fault.is_missing then Missing fault.key else Value fault.key

-- a fault of a row's keys
abbrev pub row_refusal : ConfigTable → ℕ → RowFault → ConfigFault
row_refusal of position (row_faults.Key fault) = faults.BadKey of position fault
row_refusal of position row_faults.OutOfMemory = faults.OutOfMemory

-- ---- the line that is printed, without its line feed

abbrev pub wrong_name : LoadFault → List ℕ
wrong_name BadUser = codes "BadUser"
wrong_name ShortPassword = codes "ShortPassword"
wrong_name DuplicateUser = codes "DuplicateUser"
wrong_name BadRow = codes "BadRow"
wrong_name Duplicate = codes "Duplicate"

abbrev pub refusal_line : ConfigFault → List ℕ
refusal_line (faults.Nested line column) = codes "refused config nesting"
refusal_line (faults.Toml fault) = codes "refused config toml"
refusal_line (faults.Top key) = codes "refused config top"
refusal_line (faults.BadKey of position fault) = codes "refused config "
    ++ (table_name of ++ (codes " " ++ (decimal position ++ codes " BadKey")))
refusal_line (faults.Row of position wrong) = codes "refused config "
    ++ (table_name of ++ (codes " " ++ (decimal position ++ (codes " " ++ wrong_name wrong))))
refusal_line faults.OutOfMemory = codes "out of memory"

-- This is a refusal of the text, and not OutOfMemory.
pub record RefusesText (text : List ℕ) (fault : ConfigFault) : Type 0 where
  pub cause : Refuses text fault
  pub no_memory : fault ≢ faults.OutOfMemory
