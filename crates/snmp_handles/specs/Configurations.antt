-- Why a configuration is refused, as it is reported to callers in other languages.
--
-- `TellsConfig`, `RefusesConfig`, `IsTold`: why a text is refused as a configuration, by `numbers_of` the
-- fault and in two lines.
use Rattle.std.specs.Prelude.{◌≡◌, ◌<◌, ◌≤◌, ℕ, List, [], ◌∷◌, ◌++◌, length, drop, codes, Result, Ok, Err}
use Rattle.usm_users.specs.declared.load.UserRow.{UserRow}
use Rattle.vacm_core.specs.Tables.{Tables}
use Rattle.snmp_message.specs.declared.refusal.Refusal.TheVariants.{OutOfMemory}
use Rattle.snmpsec_config.specs.declared.table.ConfigTable.{ConfigTable}
use Rattle.snmpsec_config.specs.declared.table.ConfigTable.TheVariants as tables
use Rattle.snmpsec_config.specs.declared.table.ConfigKey.{ConfigKey}
use Rattle.snmpsec_config.specs.declared.table.ConfigKey.TheVariants as keys
use Rattle.snmpsec_config.specs.declared.fault.KeyFault.{KeyFault}
use Rattle.snmpsec_config.specs.declared.fault.KeyFault.TheVariants.{Unlisted, Missing, Value}
use Rattle.snmpsec_config.specs.declared.fault.LoadFault.{LoadFault}
use Rattle.snmpsec_config.specs.declared.fault.LoadFault.TheVariants.{BadUser, ShortPassword, DuplicateUser, BadRow}
use Rattle.snmpsec_config.specs.declared.fault.LoadFault.TheVariants.{Duplicate}
use Rattle.snmpsec_config.specs.declared.fault.ConfigFault.{ConfigFault}
use Rattle.snmpsec_config.specs.declared.fault.ConfigFault.TheVariants as faults
use Rattle.snmpsec_config.specs.Refusals.{SaysSound, RefusesText, refusal_line}
use Rattle.snmp_handles.specs.declared.fault.CallFault.{CallFault}
use Rattle.snmp_handles.specs.declared.fault.CallFault.TheVariants.{Refused, BadArgument, BadConfiguration, ShortBuffer}

-- ---- the numbers of a fault

abbrev pub table_number : ConfigTable → ℕ
table_number tables.User = 1
table_number tables.Context = 2
table_number tables.Group = 3
table_number tables.Access = 4
table_number tables.Family = 5

abbrev pub key_number : ConfigKey → ℕ
key_number keys.Name = 1
key_number keys.Auth = 2
key_number keys.AuthPassword = 3
key_number keys.PrivPassword = 4
key_number keys.Model = 5
key_number keys.Group = 6
key_number keys.Prefix = 7
key_number keys.Level = 8
key_number keys.Match = 9
key_number keys.Read = 10
key_number keys.Write = 11
key_number keys.Notify = 12
key_number keys.View = 13
key_number keys.Subtree = 14
key_number keys.Include = 15
key_number keys.Mask = 16

abbrev pub wrong_number : LoadFault → ℕ
wrong_number BadUser = 6
wrong_number ShortPassword = 7
wrong_number DuplicateUser = 8
wrong_number BadRow = 9
wrong_number Duplicate = 10

-- of a fault of a row's keys: its number, and that of its key
abbrev pub row_numbers : KeyFault → ℕ × ℕ
row_numbers (Unlisted key) = (3, 0)
row_numbers (Missing key) = (4, key_number key)
row_numbers (Value key) = (5, key_number key)

-- the table, the position in it, the fault and the key; 0 where there is none
abbrev pub numbers_of : ConfigFault → List ℕ
numbers_of (faults.Nested line column) = 0 ∷ 0 ∷ 1 ∷ 0 ∷ []
numbers_of (faults.Toml fault) = 0 ∷ 0 ∷ 1 ∷ 0 ∷ []
numbers_of (faults.Top key) = 0 ∷ 0 ∷ 2 ∷ 0 ∷ []
numbers_of (faults.BadKey of position fault) = table_number of ∷ position ∷ (row_numbers fault).0
    ∷ (row_numbers fault).1 ∷ []
numbers_of (faults.Row of position wrong) = table_number of ∷ position ∷ wrong_number wrong ∷ 0 ∷ []
numbers_of faults.OutOfMemory = 0 ∷ 0 ∷ 1 ∷ 0 ∷ []

-- ---- what is reported

-- two lines: the refusal, and what is wrong and what is wanted
abbrev pub IsTold : ConfigFault → List ℕ → Type 0
IsTold fault text = (why : List ℕ) × (text ≡ refusal_line fault ++ (codes "\n" ++ (why ++ codes "\n")))

-- The text is refused for this fault, whose numbers stand in the front, and this is reported of it.
abbrev pub RefusesConfig : List ℕ → List ℕ → List ℕ → List ℕ → Type 0
RefusesConfig config numbers numbers_new text =
    (fault : ConfigFault) × RefusesText config fault × (numbers_new ≡ numbers_of fault ++ drop 4 numbers)
    × IsTold fault text

-- Whether a text is a configuration, and what is reported where it isn't one.
abbrev pub TellsConfig : {V : Type 0} → List ℕ → List ℕ → List ℕ → List ℕ → List ℕ → ℕ → ℕ → Result V CallFault → Type 0
TellsConfig config numbers numbers_new out out_new written written_new (Ok done) =
    ((users : List UserRow) × (rows : Tables) × SaysSound config users rows) × (4 ≤ length numbers)
    × (numbers_new ≡ numbers) × (out_new ≡ out) × (written_new ≡ 0)
TellsConfig config numbers numbers_new out out_new written written_new (Err BadConfiguration) =
    (text : List ℕ) × (4 ≤ length numbers) × RefusesConfig config numbers numbers_new text
    × (length text ≤ length out) × (written_new ≡ length text) × (out_new ≡ text ++ drop (length text) out)
TellsConfig config numbers numbers_new out out_new written written_new (Err ShortBuffer) =
    (text : List ℕ) × (4 ≤ length numbers) × RefusesConfig config numbers numbers_new text
    × (length out < length text) × (written_new ≡ length text) × (out_new ≡ out)
TellsConfig config numbers numbers_new out out_new written written_new (Err BadArgument) =
    (length numbers < 4) × (numbers_new ≡ numbers) × (out_new ≡ out) × (written_new ≡ written)
TellsConfig config numbers numbers_new out out_new written written_new (Err (Refused fault)) =
    (fault ≡ OutOfMemory) × (4 ≤ length numbers) × (numbers_new ≡ numbers) × (out_new ≡ out) × (written_new ≡ written)
TellsConfig config numbers numbers_new out out_new written written_new (Err _) = ⊥
