-- What is reported of a document that says nothing, and of rows that don't load.
use Rattle.std.proofs.Common.{◌≡◌, ℕ, ◌<◌, Bool, true, false, List, take, Option, Some, None, option_map, slice_get, refl, ap, arith}
use Rattle.std.specs.List.{list_any}
use Rattle.std.specs.Option.{option_and_then}
use Rattle.toml.specs.Data.{Members, table, get_item}
use Rattle.usm_users.specs.declared.load.UserRow.{UserRow}
use Rattle.usm_users.specs.declared.load.UserFault.{UserFault}
use Rattle.usm_users.specs.declared.load.UserFault.TheVariants as user_faults
use Rattle.usm_users.specs.Rows as user_rows
use Rattle.vacm_core.specs.Tables.{Tables}
use Rattle.vacm_core.specs.Faults as access_rows
use Rattle.vacm_core.specs.declared.rows.ContextRow.{ContextRow}
use Rattle.vacm_core.specs.declared.fault.Table.TheVariants as vacm_tables
use Rattle.vacm_core.specs.declared.fault.VacmFault.{VacmFault}
use Rattle.vacm_core.specs.declared.fault.VacmFault.TheVariants as vacm_faults
use Rattle.snmpsec_config.specs.Keys.{table_number}
use Rattle.snmpsec_config.specs.declared.table.ConfigTable.{ConfigTable}
use Rattle.snmpsec_config.specs.declared.table.ConfigTable.TheVariants.{User, Context, Group, Access, Family}
use Rattle.snmpsec_config.specs.declared.fault.ConfigFault.{ConfigFault}
use Rattle.snmpsec_config.specs.declared.fault.ConfigFault.TheVariants as config_faults
use Rattle.snmpsec_config.specs.Documents.{HasRows, IsFirstBad, IsFirstBadOf, values_of}
use Rattle.snmpsec_config.specs.Refusals.{TellsBadRow, TellsNoDocument}
use Rattle.snmpsec_gate_config.specs.declared.settings.GateSettings.{GateSettings}
use Rattle.snmpsec_gate_config.specs.declared.settings.DeviceSettings.{DeviceSettings}
use Rattle.snmpsec_gate_config.specs.declared.settings.ReceiverSettings.{ReceiverSettings}
use Rattle.snmpsec_gate_config.specs.declared.receiver.ReceiverFault.{ReceiverFault}
use Rattle.snmpsec_gate_config.specs.declared.fault.GateFault.{GateFault}
use Rattle.snmpsec_gate_config.specs.declared.fault.GateFault.TheVariants as faults
use Rattle.snmpsec_gate_config.specs.declared.fault.GateTableFault.{GateTableFault}
use Rattle.snmpsec_gate_config.specs.declared.fault.GateTableFault.TheVariants as table_faults
use Rattle.snmpsec_gate_config.specs.declared.table.GateTable.TheVariants as tables
use Rattle.snmpsec_gate_config.specs.Rows.{IsDevice, IsReceiver}
use Rattle.snmpsec_gate_config.specs.Receivers.{IsFirstUnfit}
use Rattle.snmpsec_gate_config.specs.Documents.{IsTop, IsWritten, HasGate, HasDevices, HasReceivers, devices_of, receivers_of}
use Rattle.snmpsec_gate_config.specs.Refusals.{Says, Refuses, RefusesDocument, TellsNoDevices, TellsNoReceivers, TellsNoRows, TellsNoTable, device_refusal, receiver_refusal, user_fault, access_fault}

-- ---- documents

pub no_document : (text : List ℕ) (f : ConfigFault) → TellsNoDocument text f → Refuses text (faults.Config f)
no_document text (config_faults.Nested line column) h = h
no_document text (config_faults.Toml fault) h = h
no_document text config_faults.OutOfMemory h = tt
no_document text _ h = absurd h

pub no_devices : (d : Members) (f : GateFault) → IsTop d → HasGate d → TellsNoDevices d f → RefusesDocument d f
no_devices d (faults.Device position fault) top gate h = (record { top = top; gate = gate; first = h.0 }, h.1)
no_devices d (faults.Config config_faults.OutOfMemory) top gate h = tt
no_devices d _ top gate h = absurd h

pub no_receivers : (d : Members) (f : GateFault) → IsTop d → HasGate d → HasDevices d → TellsNoReceivers d f → RefusesDocument d f
no_receivers d (faults.Receiver position fault) top gate devices h = (record { top = top; gate = gate; devices = devices; first = h.0 }, h.1)
no_receivers d (faults.Config config_faults.OutOfMemory) top gate devices h = tt
no_receivers d _ top gate devices h = absurd h

pub no_rows : (d : Members) (f : ConfigFault) → IsTop d → HasGate d → HasDevices d → HasReceivers d → TellsNoRows d f → RefusesDocument d (faults.Config f)
no_rows d (config_faults.BadKey of position fault) top gate devices receivers h = (record { top = top; gate = gate; devices = devices; receivers = receivers; first = h.0 }, h.1)
no_rows d config_faults.OutOfMemory top gate devices receivers h = tt
no_rows d _ top gate devices receivers h = absurd h

-- ---- a device, a receiver

pub tells_device : (d : Members) (position : ℕ) (f : GateTableFault) (t : Members) → (((made : DeviceSettings) → IsDevice t made → ⊥) → IsFirstBad IsDevice (devices_of d) position)
    → get_item position (devices_of d) ≡ Some (table t) → TellsNoTable tables.Device IsDevice t f → TellsNoDevices d (device_refusal position f)
tells_device d position (table_faults.Key fault) t first there h = (first h.1, (t, there, h.0))
tells_device d position table_faults.OutOfMemory t first there h = tt

pub tells_receiver : (d : Members) (position : ℕ) (f : GateTableFault) (t : Members) → (((made : ReceiverSettings) → IsReceiver t made → ⊥) → IsFirstBad IsReceiver (receivers_of d) position)
    → get_item position (receivers_of d) ≡ Some (table t) → TellsNoTable tables.Receiver IsReceiver t f → TellsNoReceivers d (receiver_refusal position f)
tells_receiver d position (table_faults.Key fault) t first there h = (first h.1, (t, there, h.0))
tells_receiver d position table_faults.OutOfMemory t first there h = tt

-- ---- the rows of users and access

pub tells_row : {R : Type 0} (of : ConfigTable) (Stands : Members → R → Type 0) (d : Members) (f : ConfigFault) → TellsBadRow of Stands d f → IsWritten of
    → ((position : ℕ) → IsFirstBad Stands (values_of d of) position → IsFirstBadOf d of position)
    → ((other : ConfigTable) → IsWritten other → table_number other < table_number of → HasRows d other) → TellsNoRows d f
tells_row of Stands d (config_faults.BadKey name position fault) h written first before = rw h.0 (record { written = written; first = first position h.1; before = before }, h.2)
tells_row of Stands d config_faults.OutOfMemory h written first before = tt
tells_row of Stands d _ h written first before = absurd h

-- the tables before each
pub before_user : (d : Members) (other : ConfigTable) → IsWritten other → table_number other < 0 → HasRows d other
before_user d other w lt = absurd (omega (arith, lt))

pub before_group : (d : Members) → HasRows d User → (other : ConfigTable) → IsWritten other → table_number other < 2 → HasRows d other
before_group d u User w lt = u
before_group d u Context w lt = absurd w
before_group d u _ w lt = absurd (omega (arith, lt))

pub before_access : (d : Members) → HasRows d User → HasRows d Group → (other : ConfigTable) → IsWritten other → table_number other < 3 → HasRows d other
before_access d u g User w lt = u
before_access d u g Context w lt = absurd w
before_access d u g Group w lt = g
before_access d u g _ w lt = absurd (omega (arith, lt))

pub before_family : (d : Members) → HasRows d User → HasRows d Group → HasRows d Access → (other : ConfigTable) → IsWritten other → table_number other < 4 → HasRows d other
before_family d u g a User w lt = u
before_family d u g a Context w lt = absurd w
before_family d u g a Group w lt = g
before_family d u g a Access w lt = a
before_family d u g a Family w lt = absurd (omega (arith, lt))

-- ---- rows that don't load

-- a context is reported as a duplicate or not at all
never_bad : (position : ℕ) (earlier : List ContextRow) (row : ContextRow) (b : Bool) → list_any (access_rows.is_same_context row) earlier ≡ b
    → option_map (access_rows.told vacm_tables.Contexts position) (access_rows.row_fault access_rows.is_bad_context access_rows.is_same_context earlier row) ≡ Some (vacm_faults.BadRow vacm_tables.Contexts position) → ⊥
never_bad position earlier row true e h = let never : Some (vacm_faults.Duplicate vacm_tables.Contexts position) ≡ Some (vacm_faults.BadRow vacm_tables.Contexts position) = rw e at h in cc
never_bad position earlier row false e h = let never : None ≡ Some (vacm_faults.BadRow vacm_tables.Contexts position) = rw e at h in cc

never_bad_at : (position : ℕ) (earlier : List ContextRow) (o : Option ContextRow)
    → option_map (access_rows.told vacm_tables.Contexts position) (option_and_then (access_rows.row_fault access_rows.is_bad_context access_rows.is_same_context earlier) o) ≡ Some (vacm_faults.BadRow vacm_tables.Contexts position) → ⊥
never_bad_at position earlier None h = let never : None ≡ Some (vacm_faults.BadRow vacm_tables.Contexts position) = h in cc
never_bad_at position earlier (Some row) h = never_bad position earlier row (list_any (access_rows.is_same_context row) earlier) refl h

-- no context is a bad row
pub no_bad_context : (rows : Tables) (position : ℕ) → access_rows.IsTold rows (vacm_faults.BadRow vacm_tables.Contexts position) → ⊥
no_bad_context rows position h = never_bad_at position (take position rows.contexts) (slice_get rows.contexts position) (ap (option_map (access_rows.told vacm_tables.Contexts position)) h.there)

module _ (text : List ℕ) (gate : GateSettings) (devices : List DeviceSettings) (receivers : List ReceiverSettings) (users : List UserRow) (rows : Tables) (s : Says text gate devices receivers users rows) where
  pub user_told : (f : UserFault) → user_rows.IsTold users f → Refuses text (user_fault f)
  user_told user_faults.OutOfMemory h = tt
  user_told _ h = (s.document, s.is_document, (gate, devices, receivers, users, rows, s.stands, tt, h))

  pub access_told : user_rows.AreSound users → (f : VacmFault) → access_rows.IsTold rows f → Refuses text (access_fault f)
  access_told sound (vacm_faults.BadRow vacm_tables.Contexts position) h = absurd (no_bad_context rows position h)
  access_told sound (vacm_faults.Duplicate vacm_tables.Contexts position) h =
      (s.document, s.is_document, record { gate = gate; devices = devices; receivers = receivers; users = users; rows = rows; stands = s.stands; sound_users = sound; duplicate = h })
  access_told sound vacm_faults.OutOfMemory h = tt
  access_told sound _ h = (s.document, s.is_document, (gate, devices, receivers, users, rows, s.stands, tt, (sound, h)))

  pub unfit_told : user_rows.AreSound users → access_rows.AreSound rows → (position : ℕ) (fault : ReceiverFault) → IsFirstUnfit users receivers position fault → Refuses text (faults.Unfit position fault)
  unfit_told sound sound_rows position fault h =
      (s.document, s.is_document, record { gate = gate; devices = devices; receivers = receivers; users = users; rows = rows; stands = s.stands; sound_users = sound; sound_rows = sound_rows; first = h })
