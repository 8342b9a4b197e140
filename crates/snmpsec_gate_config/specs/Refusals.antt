-- What a gateway's configuration is, and why a text is none.
--
-- `Says`, `SaysSound`, `Loads`. The text is TOML whose document says this of a gateway; no row is at fault; and these
-- users and tables are what the rows load to.
--
-- `Refuses text fault`, `RefusesText`. The cause of the fault holds of the text, and it isn't that memory ran out. The
-- order of looking: the text, its top, [gate], the devices, the receivers, the rows of each table; then users, contexts
-- (which are the devices), groups, access and families as they load; then whether notifications can be sent to each
-- receiver. `refusal_line`: the line that is printed.
use Rattle.std.specs.Prelude.{◌≡◌, ◌≢◌, ⊤, ℕ, List, ◌++◌, codes, decimal, map, if◌then◌else◌, string_bytes}
use Rattle.std.specs.Prelude.{Some, None}
use Rattle.toml.specs.Data.{Members, table, get_item}
use Rattle.usm_users.specs.declared.load.UserRow.{UserRow}
use Rattle.usm_users.specs.declared.load.UserFault.{UserFault}
use Rattle.usm_users.specs.Rows as user_rows
use Rattle.usm_users.specs.User.{User as AUser}
use Rattle.vacm_core.specs.Tables.{Tables, HaveSameRows}
use Rattle.vacm_core.specs.Faults as access_rows
use Rattle.vacm_core.specs.declared.fault.Table.TheVariants.{Contexts}
use Rattle.vacm_core.specs.declared.fault.VacmFault.{VacmFault}
use Rattle.vacm_core.specs.declared.fault.VacmFault.TheVariants as vacm_faults
use Rattle.snmpsec_config.specs.declared.fault.ConfigFault.{ConfigFault}
use Rattle.snmpsec_config.specs.declared.fault.ConfigFault.TheVariants as config_faults
use Rattle.snmpsec_config.specs.Refusals.{IsDocument, TellsNoDocument, TellsKeyAt, TellsRow, user_refusal, vacm_refusal}
use Rattle.snmpsec_config.specs.Refusals as config
use Rattle.snmpsec_gate_config.specs.declared.table.GateTable.{GateTable}
use Rattle.snmpsec_gate_config.specs.declared.table.GateTable.TheVariants as tables
use Rattle.snmpsec_gate_config.specs.declared.settings.GateSettings.{GateSettings}
use Rattle.snmpsec_gate_config.specs.declared.settings.DeviceSettings.{DeviceSettings}
use Rattle.snmpsec_gate_config.specs.declared.settings.ReceiverSettings.{ReceiverSettings}
use Rattle.snmpsec_gate_config.specs.declared.receiver.ReceiverFault.{ReceiverFault}
use Rattle.snmpsec_gate_config.specs.declared.receiver.ReceiverFault.TheVariants as receiver_faults
use Rattle.snmpsec_gate_config.specs.Receivers.{AreReceivers, IsFirstUnfit}
use Rattle.snmpsec_gate_config.specs.declared.values.GateValueFault.{GateValueFault}
use Rattle.snmpsec_gate_config.specs.declared.fault.GateKeyFault.{GateKeyFault}
use Rattle.snmpsec_gate_config.specs.declared.fault.GateKeyFault.TheVariants.{Unlisted, Missing, Value}
use Rattle.snmpsec_gate_config.specs.declared.fault.GateTableFault.{GateTableFault}
use Rattle.snmpsec_gate_config.specs.declared.fault.GateTableFault.TheVariants as table_faults
use Rattle.snmpsec_gate_config.specs.declared.fault.GateFault.{GateFault}
use Rattle.snmpsec_gate_config.specs.declared.fault.GateFault.TheVariants as faults
use Rattle.snmpsec_gate_config.specs.Keys.{at, HasOnlyListed, IsFirstUnlisted}
use Rattle.snmpsec_gate_config.specs.Values.{AreAddresses, AreAddressesIfAny, IsFirstWrong, value_fault}
use Rattle.snmpsec_gate_config.specs.Rows.{IsGate, IsDevice, IsReceiver}
use Rattle.snmpsec_gate_config.specs.declared.table.GateKey.{GateKey}
use Rattle.std.specs.declared.net.socket_addr.SocketAddr.{SocketAddr}
use Rattle.snmpsec_config.specs.Documents.{IsFirstBad}
use Rattle.snmpsec_gate_config.specs.Documents.{StandsFor, IsWritten, IsBadTop, IsBadGate, IsBadDeviceAt, IsFirstBadRow}
use Rattle.snmpsec_gate_config.specs.Documents.{IsBadReceiverAt, IsBadRowAt}
use Rattle.snmpsec_gate_config.specs.Documents.{gate_of, devices_of, receivers_of}

-- The text says this of a gateway.
pub record Says (text : List ℕ) (gate : GateSettings) (devices : List DeviceSettings)
    (receivers : List ReceiverSettings) (users : List UserRow) (rows : Tables) : Type 0 where
  pub document : Members
  pub is_document : IsDocument text document
  pub stands : StandsFor document gate devices receivers users rows

-- The text says this of a gateway, and none of the rows is at fault. So no two devices have one context, and
-- notifications can be sent to each receiver.
pub record SaysSound (text : List ℕ) (gate : GateSettings) (devices : List DeviceSettings)
    (receivers : List ReceiverSettings) (users : List UserRow) (rows : Tables) : Type 0 where
  pub says : Says text gate devices receivers users rows
  pub sound_users : user_rows.AreSound users
  pub sound_rows : access_rows.AreSound rows
  pub sound_receivers : AreReceivers users receivers

-- The text says this of a gateway, and its rows load, as these users and these tables.
pub record Loads (text : List ℕ) (gate : GateSettings) (devices : List DeviceSettings)
    (receivers : List ReceiverSettings) (loaded : List AUser) (tables : Tables) : Type 0 where
  pub users : List UserRow
  pub rows : Tables
  pub sound : SaysSound text gate devices receivers users rows
  pub same_users : loaded ≡ map user_rows.user_of users
  pub same_rows : HaveSameRows rows tables

-- ---- refusals

-- What is said of the keys of a table, the first that is at fault: one that isn't listed, in the order of the keys; or
-- else a listed one that is missing, or whose value isn't what is expected, in the order in which the table lists them.
abbrev pub TellsKey : GateTable → Members → GateKeyFault → Type 0
TellsKey of row (Unlisted key) = IsFirstUnlisted of row (string_bytes key)
TellsKey of row (Missing key) = HasOnlyListed of row × IsFirstWrong of row key × (at row key ≡ None)
TellsKey of row (Value key) = HasOnlyListed of row × IsFirstWrong of row key × (at row key ≢ None)

-- The key at fault is in the device at this position.
abbrev pub TellsDeviceAt : Members → ℕ → GateKeyFault → Type 0
TellsDeviceAt document position fault = (row : Members)
    × (get_item position (devices_of document) ≡ Some (table row)) × TellsKey tables.Device row fault

-- The key at fault is in the receiver at this position.
abbrev pub TellsReceiverAt : Members → ℕ → GateKeyFault → Type 0
TellsReceiverAt document position fault = (row : Members)
    × (get_item position (receivers_of document) ≡ Some (table row)) × TellsKey tables.Receiver row fault

-- a device whose context an earlier one has, the first such, and no user is at fault
pub record IsDuplicateAt (document : Members) (position : ℕ) : Type 0 where
  pub gate : GateSettings
  pub devices : List DeviceSettings
  pub receivers : List ReceiverSettings
  pub users : List UserRow
  pub rows : Tables
  pub stands : StandsFor document gate devices receivers users rows
  pub sound_users : user_rows.AreSound users
  pub duplicate : access_rows.IsTold rows (vacm_faults.Duplicate Contexts position)

-- a receiver to which notifications can't be sent, the first such, and no row of users and access is at fault
pub record IsUnfitAt (document : Members) (position : ℕ) (fault : ReceiverFault) : Type 0 where
  pub gate : GateSettings
  pub devices : List DeviceSettings
  pub receivers : List ReceiverSettings
  pub users : List UserRow
  pub rows : Tables
  pub stands : StandsFor document gate devices receivers users rows
  pub sound_users : user_rows.AreSound users
  pub sound_rows : access_rows.AreSound rows
  pub first : IsFirstUnfit users receivers position fault

-- What a refusal of the rows that other configurations have too says of the document.
abbrev pub RefusesRows : Members → ConfigFault → Type 0
RefusesRows document (config_faults.BadKey of position fault) = IsBadRowAt document of position
    × TellsKeyAt document of position fault
RefusesRows document (config_faults.Row of position wrong) = (gate : GateSettings) × (devices : List DeviceSettings)
    × (receivers : List ReceiverSettings) × (users : List UserRow) × (rows : Tables)
    × StandsFor document gate devices receivers users rows × IsWritten of × TellsRow users rows of position wrong
RefusesRows document config_faults.OutOfMemory = ⊤
RefusesRows document _ = ⊥

-- What a refusal says of the document, in the order of looking.
abbrev pub RefusesDocument : Members → GateFault → Type 0
RefusesDocument document (faults.Top key) = IsBadTop document (string_bytes key)
RefusesDocument document (faults.Gate fault) = IsBadGate document × TellsKey tables.Gate (gate_of document) fault
RefusesDocument document (faults.Device position fault) = IsBadDeviceAt document position
    × TellsDeviceAt document position fault
RefusesDocument document (faults.Duplicate position) = IsDuplicateAt document position
RefusesDocument document (faults.Receiver position fault) = IsBadReceiverAt document position
    × TellsReceiverAt document position fault
RefusesDocument document (faults.Unfit position fault) = IsUnfitAt document position fault
RefusesDocument document (faults.Config fault) = RefusesRows document fault

-- What a refusal says of the text: the first cause, or that memory ran out.
abbrev pub Refuses : List ℕ → GateFault → Type 0
Refuses text (faults.Config (config_faults.Nested line column)) =
    TellsNoDocument text (config_faults.Nested line column)
Refuses text (faults.Config (config_faults.Toml fault)) = TellsNoDocument text (config_faults.Toml fault)
Refuses text (faults.Config config_faults.OutOfMemory) = ⊤
Refuses text fault = (document : Members) × IsDocument text document × RefusesDocument document fault

-- This is a refusal of the text, and not because memory ran out.
pub record RefusesText (text : List ℕ) (fault : GateFault) : Type 0 where
  pub cause : Refuses text fault
  pub no_memory : fault ≢ faults.Config config_faults.OutOfMemory

-- ---- between the calls

-- a fault of the value at a key
abbrev pub key_fault : GateValueFault → GateKeyFault
key_fault fault = if fault.is_missing then Missing fault.key else Value fault.key

-- What is reported of a table that says nothing.
abbrev pub TellsNoTable : {R : Type 0} → GateTable → (Members → R → Type 0) → Members → GateTableFault → Type 0
TellsNoTable {R} of Stands row (table_faults.Key fault) = TellsKey of row fault × ((made : R) → ¬ Stands row made)
TellsNoTable {R} of Stands row table_faults.OutOfMemory = ⊤

-- What is reported of a key that isn't listed.
abbrev pub TellsUnlisted : GateTable → Members → GateTableFault → Type 0
TellsUnlisted of row (table_faults.Key (Unlisted key)) = IsFirstUnlisted of row (string_bytes key)
TellsUnlisted of row (table_faults.Key (Missing key)) = ⊥
TellsUnlisted of row (table_faults.Key (Value key)) = ⊥
TellsUnlisted of row table_faults.OutOfMemory = ⊤

-- What is reported of a key at which there are no addresses.
abbrev pub TellsNoAddresses : Members → GateKey → GateTableFault → Type 0
TellsNoAddresses row key (table_faults.Key fault) = (fault ≡ key_fault (value_fault (at row key) key))
    × ((addresses : List SocketAddr) → ¬ AreAddresses (at row key) addresses)
TellsNoAddresses row key table_faults.OutOfMemory = ⊤

-- What is reported of a key that is there, and at which there are no addresses.
abbrev pub TellsNoAddressesIfAny : Members → GateKey → GateTableFault → Type 0
TellsNoAddressesIfAny row key (table_faults.Key fault) = (fault ≡ key_fault (value_fault (at row key) key))
    × ((addresses : List SocketAddr) → ¬ AreAddressesIfAny (at row key) addresses)
TellsNoAddressesIfAny row key table_faults.OutOfMemory = ⊤

-- What is reported of [gate] where it says nothing.
abbrev pub TellsNoGate : Members → GateFault → Type 0
TellsNoGate document (faults.Gate fault) = TellsKey tables.Gate (gate_of document) fault
    × ((gate : GateSettings) → ¬ IsGate (gate_of document) gate)
TellsNoGate document (faults.Config config_faults.OutOfMemory) = ⊤
TellsNoGate document _ = ⊥

-- What is reported of the devices where one says nothing.
abbrev pub TellsNoDevices : Members → GateFault → Type 0
TellsNoDevices document (faults.Device position fault) = IsFirstBad IsDevice (devices_of document) position
    × TellsDeviceAt document position fault
TellsNoDevices document (faults.Config config_faults.OutOfMemory) = ⊤
TellsNoDevices document _ = ⊥

-- What is reported of the receivers where one says nothing.
abbrev pub TellsNoReceivers : Members → GateFault → Type 0
TellsNoReceivers document (faults.Receiver position fault) = IsFirstBad IsReceiver (receivers_of document) position
    × TellsReceiverAt document position fault
TellsNoReceivers document (faults.Config config_faults.OutOfMemory) = ⊤
TellsNoReceivers document _ = ⊥

-- What is reported of the rows of users and access where one stands for none.
abbrev pub TellsNoRows : Members → ConfigFault → Type 0
TellsNoRows document (config_faults.BadKey of position fault) = IsFirstBadRow document of position
    × TellsKeyAt document of position fault
TellsNoRows document config_faults.OutOfMemory = ⊤
TellsNoRows document _ = ⊥

-- a fault of users as they load
abbrev pub user_fault : UserFault → GateFault
user_fault fault = faults.Config (user_refusal fault)

-- a fault of the rows of view-based access as they load: a context is a device's
abbrev pub access_fault : VacmFault → GateFault
access_fault (vacm_faults.Duplicate Contexts position) = faults.Duplicate position
access_fault fault = faults.Config (vacm_refusal fault)

-- a fault of the device at this position
abbrev pub device_refusal : ℕ → GateTableFault → GateFault
device_refusal position (table_faults.Key fault) = faults.Device position fault
device_refusal position table_faults.OutOfMemory = faults.Config config_faults.OutOfMemory

-- a fault of the receiver at this position
abbrev pub receiver_refusal : ℕ → GateTableFault → GateFault
receiver_refusal position (table_faults.Key fault) = faults.Receiver position fault
receiver_refusal position table_faults.OutOfMemory = faults.Config config_faults.OutOfMemory

-- ---- the line that is printed, without its line feed

abbrev pub unfit_word : ReceiverFault → List ℕ
unfit_word receiver_faults.UnknownUser = codes "UnknownUser"
unfit_word receiver_faults.UnsupportedLevel = codes "UnsupportedLevel"
unfit_word receiver_faults.Duplicate = codes "Duplicate"

abbrev pub refusal_line : GateFault → List ℕ
refusal_line (faults.Top key) = codes "refused config top"
refusal_line (faults.Gate fault) = codes "refused config gate BadKey"
refusal_line (faults.Device position fault) = codes "refused config device "
    ++ (decimal position ++ codes " BadKey")
refusal_line (faults.Duplicate position) = codes "refused config device "
    ++ (decimal position ++ codes " Duplicate")
refusal_line (faults.Receiver position fault) = codes "refused config receiver "
    ++ (decimal position ++ codes " BadKey")
refusal_line (faults.Unfit position fault) = codes "refused config receiver "
    ++ (decimal position ++ (codes " " ++ unfit_word fault))
refusal_line (faults.Config fault) = config.refusal_line fault
