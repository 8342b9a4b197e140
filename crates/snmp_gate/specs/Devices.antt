-- The devices behind a gateway. A contextName names one of them (RFC 3411, section 3.3.1).
--
-- `IsDeviceOf`: the number of a device that has a contextName. `IsUnknownContext`: none has it. `HaveOwnContexts`: no
-- two have one. `IsFirstRepeated`: the first device that has the contextName of one before it.
use Rattle.std.specs.Prelude.{◌≡◌, ◌≢◌, ◌<◌, ℕ, List, All, AllPairs, length, take}
use Rattle.std.specs.List.{HoldsAt}
use Rattle.snmp_gate.specs.declared.devices.Device.{Device}

abbrev pub context_of : Device → List ℕ
context_of d = d.context.items

pub record IsDeviceOf (devices : List Device) (context : List ℕ) (number : ℕ) : Type 0 where
  pub within : number < length devices
  pub named : HoldsAt (λ (d : Device). context_of d ≡ context) devices number

abbrev pub IsUnknownContext : List Device → List ℕ → Type 0
IsUnknownContext devices context = All (λ (d : Device). context_of d ≢ context) devices

abbrev pub HaveOwnContexts : List Device → Type 0
HaveOwnContexts devices = AllPairs (λ (a b : Device). context_of a ≢ context_of b) devices

-- a device has this contextName
abbrev pub IsKnownContext : List Device → List ℕ → Type 0
IsKnownContext devices context = (number : ℕ) × IsDeviceOf devices context number

pub record IsFirstRepeated (devices : List Device) (number : ℕ) : Type 0 where
  pub within : number < length devices
  pub repeats : HoldsAt (λ (d : Device). IsKnownContext (take number devices) (context_of d)) devices number
  pub before : HaveOwnContexts (take number devices)
