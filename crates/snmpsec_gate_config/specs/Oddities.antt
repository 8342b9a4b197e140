-- What about a device is probably a mistake.
--
-- `Fits`: an access row fits messages to the device. `TellsOddity`: what is odd about a device, or that nothing is.
-- `oddity_words`: that in words.
use Rattle.std.specs.Prelude.{◌≡◌, ◌≢◌, ℕ, ◌<◌, List, [], ◌++◌, codes, decimal, Option, Some, None, All, length, take}
use Rattle.std.specs.List.{HoldsAt}
use Rattle.snmp_ber.specs.declared.level.Level.TheVariants.{AuthPriv}
use Rattle.snmp_message.specs.declared.header.TheConstants.{USER_BASED}
use Rattle.vacm_core.specs.Allowed.{FitsMessage}
use Rattle.vacm_core.specs.declared.rows.AccessRow.{AccessRow}
use Rattle.snmpsec_gate_config.specs.declared.settings.DeviceSettings.{DeviceSettings}
use Rattle.snmpsec_gate_config.specs.declared.oddity.DeviceOddity.{DeviceOddity}
use Rattle.snmpsec_gate_config.specs.declared.oddity.DeviceOddity.TheVariants as odd

-- The row fits messages of its group to the device, of the User-based Security Model and at some level.
abbrev pub Fits : DeviceSettings → AccessRow → Type 0
Fits device row = FitsMessage row.group USER_BASED AuthPriv device.context row

-- It does, and it gives a view for writing.
abbrev pub FitsWrites : DeviceSettings → AccessRow → Type 0
FitsWrites device row = Fits device row × (row.write ≢ [])

-- The first row of which it holds is at this position.
pub record IsFirstOf (P : AccessRow → Type 0) (rows : List AccessRow) (position : ℕ) : Type 0 where
  pub within : position < length rows
  pub holds : HoldsAt P rows position
  pub before : All (λ row. ¬ P row) (take position rows)

abbrev pub TellsOddity : DeviceSettings → List AccessRow → Option DeviceOddity → Type 0
TellsOddity device rows (Some odd.NobodySees) = All (λ row. ¬ Fits device row) rows
TellsOddity device rows (Some (odd.NoWriteCommunity access)) = (device.write_community ≡ None)
    × IsFirstOf (FitsWrites device) rows access
TellsOddity device rows None = ((position : ℕ) × IsFirstOf (Fits device) rows position)
    × (device.write_community ≡ None → All (λ row. ¬ FitsWrites device row) rows)

abbrev pub oddity_words : DeviceOddity → List ℕ
oddity_words odd.NobodySees = codes "no access row fits its context"
oddity_words (odd.NoWriteCommunity access) = codes "access "
    ++ (decimal access ++ codes " gives a write view, and it has no write-community")
