-- What a document says as a gateway's configuration, and which of its tables says nothing.
--
-- `StandsFor`. The top has [gate], the arrays of [[device]], [[receiver]], [[user]], [[group]], [[access]] and
-- [[family]], and nothing else; each table says what its row is; the contexts are those of the devices. `IsBadTop`: the
-- first key that has no place there. `IsBadDeviceAt`, `IsBadReceiverAt`, `IsBadRowAt`: the first table that says
-- nothing.
use Rattle.std.specs.Prelude.{◌≡◌, ⊤, ◌⊎◌, ℕ, ◌<◌, List, map, Option, Some}
use Rattle.toml.specs.Data.{Data, table, Items, Members, no_members, get_member}
use Rattle.usm_users.specs.declared.load.UserRow.{UserRow}
use Rattle.vacm_core.specs.Tables.{Tables}
use Rattle.vacm_core.specs.declared.rows.ContextRow.{ContextRow}
use Rattle.snmpsec_config.specs.declared.table.ConfigTable.{ConfigTable}
use Rattle.snmpsec_config.specs.declared.table.ConfigTable.TheVariants.{User, Context, Group, Access, Family}
use Rattle.snmpsec_config.specs.Keys.{EachMember, FirstMember, table_number}
use Rattle.snmpsec_config.specs.Keys as config
use Rattle.snmpsec_config.specs.Rows.{IsUserRow, IsGroupRow, IsAccessRow, IsFamilyRow, AreRows}
use Rattle.snmpsec_config.specs.Documents.{IsArrayOfTables, values_in, values_of, IsFirstBad, IsFirstBadOf, HasRows}
use Rattle.snmpsec_gate_config.specs.Keys.{table_name}
use Rattle.snmpsec_gate_config.specs.Rows.{IsGate, IsDevice, IsReceiver, context_row}
use Rattle.snmpsec_gate_config.specs.declared.table.GateTable.TheVariants as tables
use Rattle.snmpsec_gate_config.specs.declared.settings.GateSettings.{GateSettings}
use Rattle.snmpsec_gate_config.specs.declared.settings.DeviceSettings.{DeviceSettings}
use Rattle.snmpsec_gate_config.specs.declared.settings.ReceiverSettings.{ReceiverSettings}

-- ---- the top

-- The table is written in a gateway's configuration. Contexts aren't: the devices are these.
abbrev pub IsWritten : ConfigTable → Type 0
IsWritten User = ⊤
IsWritten Context = ⊥
IsWritten Group = ⊤
IsWritten Access = ⊤
IsWritten Family = ⊤

abbrev pub IsTable : Data → Type 0
IsTable (table t) = ⊤
IsTable _ = ⊥

-- The key is that of an array of tables.
abbrev pub IsArrayName : List ℕ → Type 0
IsArrayName key = (key ≡ table_name tables.Device) ⊎ (key ≡ table_name tables.Receiver)
    ⊎ ((name : ConfigTable) × IsWritten name × (key ≡ config.table_name name))

-- The key is that of the gateway's table, and its value a table; or that of an array of tables, and its value one.
abbrev pub IsTopMember : List ℕ → Data → Type 0
IsTopMember key value = ((key ≡ table_name tables.Gate) × IsTable value) ⊎ (IsArrayName key × IsArrayOfTables value)

abbrev pub IsTop : Members → Type 0
IsTop document = EachMember IsTopMember document

-- The first key that has no place at the top, or whose value hasn't.
abbrev pub IsBadTop : Members → List ℕ → Type 0
IsBadTop document key = FirstMember IsTopMember document key

-- ---- the tables

abbrev pub members_in : Option Data → Members
members_in (Some (table t)) = t
members_in _ = no_members

-- the table [gate], which is empty where it is absent
abbrev pub gate_of : Members → Members
gate_of document = members_in (get_member (table_name tables.Gate) document)

-- the tables of [[device]], none where they are absent
abbrev pub devices_of : Members → Items
devices_of document = values_in (get_member (table_name tables.Device) document)

-- the tables of [[receiver]], none where they are absent
abbrev pub receivers_of : Members → Items
receivers_of document = values_in (get_member (table_name tables.Receiver) document)

-- The document has these rows of users and access, beside these contexts.
pub record AreConfigRows (document : Members) (own : List ContextRow) (users : List UserRow) (rows : Tables)
    : Type 0 where
  pub user_rows : AreRows IsUserRow (values_of document User) users
  pub contexts : rows.contexts ≡ own
  pub groups : AreRows IsGroupRow (values_of document Group) rows.groups
  pub access : AreRows IsAccessRow (values_of document Access) rows.access
  pub families : AreRows IsFamilyRow (values_of document Family) rows.families

-- The document says this of the gateway, its devices, its receivers and its users, and has these rows of view-based
-- access.
pub record StandsFor (document : Members) (gate : GateSettings) (devices : List DeviceSettings)
    (receivers : List ReceiverSettings) (users : List UserRow) (rows : Tables) : Type 0 where
  pub top : IsTop document
  pub gate_table : IsGate (gate_of document) gate
  pub device_tables : AreRows IsDevice (devices_of document) devices
  pub receiver_tables : AreRows IsReceiver (receivers_of document) receivers
  pub config_rows : AreConfigRows document (map context_row devices) users rows

-- ---- the first table that says nothing

abbrev pub HasGate : Members → Type 0
HasGate document = (gate : GateSettings) × IsGate (gate_of document) gate

abbrev pub HasDevices : Members → Type 0
HasDevices document = (devices : List DeviceSettings) × AreRows IsDevice (devices_of document) devices

abbrev pub HasReceivers : Members → Type 0
HasReceivers document = (receivers : List ReceiverSettings) × AreRows IsReceiver (receivers_of document) receivers

-- [gate] is at fault.
pub record IsBadGate (document : Members) : Type 0 where
  pub top : IsTop document
  pub no_gate : (gate : GateSettings) → ¬ IsGate (gate_of document) gate

-- The device at this position is the first at fault, and [gate] isn't.
pub record IsBadDeviceAt (document : Members) (position : ℕ) : Type 0 where
  pub top : IsTop document
  pub gate : HasGate document
  pub first : IsFirstBad IsDevice (devices_of document) position

-- The receiver at this position is the first at fault, and neither [gate] nor a device is.
pub record IsBadReceiverAt (document : Members) (position : ℕ) : Type 0 where
  pub top : IsTop document
  pub gate : HasGate document
  pub devices : HasDevices document
  pub first : IsFirstBad IsReceiver (receivers_of document) position

-- The row at this position is the first at fault, the tables in their order.
pub record IsFirstBadRow (document : Members) (of : ConfigTable) (position : ℕ) : Type 0 where
  pub written : IsWritten of
  pub first : IsFirstBadOf document of position
  pub before : (other : ConfigTable) → IsWritten other → table_number other < table_number of
      → HasRows document other

-- It is, and neither [gate] nor a device nor a receiver is at fault.
pub record IsBadRowAt (document : Members) (of : ConfigTable) (position : ℕ) : Type 0 where
  pub top : IsTop document
  pub gate : HasGate document
  pub devices : HasDevices document
  pub receivers : HasReceivers document
  pub first : IsFirstBadRow document of position
