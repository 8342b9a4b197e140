-- To which receivers notifications can be sent.
--
-- `TellsReceiver`: why none can be sent to a receiver. `AreReceivers`: they can be sent to each, and to none twice.
-- `IsFirstUnfit`: the first receiver to which they can't.
use Rattle.std.specs.Prelude.{◌≡◌, ◌≢◌, ⊤, ℕ, ◌<◌, List, take, slice_get, All, Any, Some, None}
use Rattle.snmp_ber.specs.declared.level.Level.{Level}
use Rattle.snmp_ber.specs.declared.level.Level.TheVariants.{NoAuthNoPriv, AuthNoPriv, AuthPriv}
use Rattle.usm_users.specs.declared.load.UserRow.{UserRow}
use Rattle.snmpsec_gate_config.specs.declared.settings.ReceiverSettings.{ReceiverSettings}
use Rattle.snmpsec_gate_config.specs.declared.receiver.ReceiverFault.{ReceiverFault}
use Rattle.snmpsec_gate_config.specs.declared.receiver.ReceiverFault.TheVariants as faults

-- The user supports the level: it has a password for authentication, and one for privacy, where the level has them (RFC
-- 3414, section 3.1, steps 2 and 3).
abbrev pub SupportsLevel : Level → UserRow → Type 0
SupportsLevel NoAuthNoPriv user = ⊤
SupportsLevel AuthNoPriv user = user.auth ≢ None
SupportsLevel AuthPriv user = (user.auth ≢ None) × (user.privacy ≢ None)

-- The receiver's user is this one.
abbrev pub IsUserOf : ReceiverSettings → UserRow → Type 0
IsUserOf receiver user = user.name.items ≡ receiver.user

-- One of the users is the receiver's.
abbrev pub HasUser : List UserRow → ReceiverSettings → Type 0
HasUser users receiver = Any (IsUserOf receiver) users

-- The receiver's user is this one, and it supports the receiver's level.
abbrev pub IsUserAtLevel : ReceiverSettings → UserRow → Type 0
IsUserAtLevel receiver user = IsUserOf receiver user × SupportsLevel receiver.level user

-- One of the users is the receiver's and supports its level.
abbrev pub HasUserAtLevel : List UserRow → ReceiverSettings → Type 0
HasUserAtLevel users receiver = Any (IsUserAtLevel receiver) users

-- The two have one address and one user, so a notification would come twice.
abbrev pub AreSame : ReceiverSettings → ReceiverSettings → Type 0
AreSame receiver other = (other.address ≡ receiver.address) × (other.user ≡ receiver.user)

-- One of the earlier receivers has this one's address and user.
abbrev pub IsDouble : List ReceiverSettings → ReceiverSettings → Type 0
IsDouble earlier receiver = Any (AreSame receiver) earlier

-- why notifications can't be sent to a receiver, where these are the users and the earlier receivers: the first that
-- applies
abbrev pub TellsReceiver : List UserRow → List ReceiverSettings → ReceiverSettings → ReceiverFault → Type 0
TellsReceiver users earlier receiver faults.UnknownUser = All (λ user. ¬ IsUserOf receiver user) users
TellsReceiver users earlier receiver faults.UnsupportedLevel = HasUser users receiver
    × All (λ user. ¬ IsUserAtLevel receiver user) users
TellsReceiver users earlier receiver faults.Duplicate = HasUserAtLevel users receiver × IsDouble earlier receiver

-- Notifications can be sent to it.
abbrev pub IsFit : List UserRow → List ReceiverSettings → ReceiverSettings → Type 0
IsFit users earlier receiver = HasUserAtLevel users receiver × (¬ IsDouble earlier receiver)

-- Notifications can be sent to the receiver at this position, if there is one.
abbrev pub IsFitAt : List UserRow → List ReceiverSettings → ℕ → Type 0
IsFitAt users receivers position = (receiver : ReceiverSettings) → slice_get receivers position ≡ Some receiver
    → IsFit users (take position receivers) receiver

-- Notifications can be sent to each.
abbrev pub AreReceivers : List UserRow → List ReceiverSettings → Type 0
AreReceivers users receivers = (position : ℕ) → IsFitAt users receivers position

-- The receiver at this position is the first to which they can't be sent, for this reason.
pub record IsFirstUnfit (users : List UserRow) (receivers : List ReceiverSettings) (position : ℕ)
    (fault : ReceiverFault) : Type 0 where
  pub receiver : ReceiverSettings
  pub there : slice_get receivers position ≡ Some receiver
  pub told : TellsReceiver users (take position receivers) receiver fault
  pub before : (i : ℕ) → i < position → IsFitAt users receivers i
