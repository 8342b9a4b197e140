-- To whom a datagram of a device is to be sent (RFC 3413, section 3.3).
use Rattle.std.specs.Prelude.{◌≡◌, ◌≢◌, ℕ, List, Some, slice_get}
use Rattle.vacm_core.specs.Tables.{Tables}
use Rattle.snmp_msg.specs.Pdu.{PduParts}
use Rattle.snmp_gate.specs.declared.devices.Device.{Device}
use Rattle.snmp_forward.specs.Notifications.{IsNoNotification, IsNotification}
use Rattle.snmp_forward.specs.Sending.{AreChosen}
use Rattle.snmp_forward.specs.declared.forwarder.Chosen.{Chosen}
use Rattle.snmp_forward.specs.declared.forwarder.Chosen.TheVariants.{NotNotification, OtherCommunity, Receivers}
use Rattle.snmp_forward.specs.declared.receivers.Receiver.{Receiver}

-- the device of this number has this community
abbrev pub IsOfDevice : List Device → ℕ → List ℕ → Type 0
IsOfDevice devices device community = (d : Device) × (slice_get devices device ≡ Some d)
    × (d.community.items ≡ community)

-- there is no such device, or it has another one
abbrev pub IsOfNoDevice : List Device → ℕ → List ℕ → Type 0
IsOfNoDevice devices device community = (d : Device) → slice_get devices device ≡ Some d
    → d.community.items ≢ community

-- the datagram is a notification of the device of this number
pub record IsFromDevice (devices : List Device) (device : ℕ) (datagram : List ℕ) : Type 0 where
  pub community : List ℕ
  pub pdu : PduParts
  pub trap_oid : List ℕ
  pub is : IsNotification datagram community pdu trap_oid
  pub of : IsOfDevice devices device community

-- it is a notification of another one
pub record IsFromNoDevice (devices : List Device) (device : ℕ) (datagram : List ℕ) : Type 0 where
  pub community : List ℕ
  pub pdu : PduParts
  pub trap_oid : List ℕ
  pub is : IsNotification datagram community pdu trap_oid
  pub of : IsOfNoDevice devices device community

abbrev pub IsChosen : Tables → List Device → List Receiver → ℕ → List ℕ → Chosen → Type 0
IsChosen tables devices receivers device datagram (NotNotification why) = IsNoNotification datagram why
IsChosen tables devices receivers device datagram OtherCommunity = IsFromNoDevice devices device datagram
IsChosen tables devices receivers device datagram (Receivers numbers) = IsFromDevice devices device datagram
    × AreChosen tables devices receivers device datagram numbers.items
