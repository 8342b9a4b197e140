-- What receivers are notified of (RFC 3413, section 3.3).
--
-- `AreOfDevices`: an Inform is of a notification that a device sent. `IsOfNotification`: a Trap or an Inform has the
-- variables of such a notification, of each of which its receiver may be notified. `HasNoVariables`: a message has
-- none. `TellsNotified`: both, of what goes out of an originator.
use Rattle.std.specs.Prelude.{◌≡◌, ◌⊎◌, ⊤, ℕ, List, All, Ok}
use Rattle.snmp_msg.specs.Variables.{Variable, variables_of}
use Rattle.snmp_manager.specs.Views.{Held}
use Rattle.snmp_manager.specs.declared.pending.Pending.{Pending}
use Rattle.snmp_forward.specs.Informs.{IsInformOf, IsMediated, SealsInform, SendsDiscovery, SendsTimeRequest}
use Rattle.snmp_forward.specs.Receivers.{notified_in}
use Rattle.snmp_forward.specs.Sending.{MayBeSent, SealsTrap}
use Rattle.snmp_forward.specs.declared.inform.Inform.{Inform}
use Rattle.snmp_forward.specs.declared.originator.Originator.{Originator}
use Rattle.snmp_forward.specs.declared.sealing.Sealing.{Sealing}
use Rattle.tests_callers.specs.declared.notifications.Notice.{Notice}
use Rattle.tests_callers.specs.declared.notifications.Notice.TheVariants.{Notifies, Asks, Nothing}

abbrev pub AreOfDevices : Originator → Inform → Type 0
AreOfDevices o inform =
    IsMediated o.forwarder.agent.tables o.forwarder.devices.list.items o.forwarder.receivers.list.items inform

-- a device's notification, which its receiver may be sent
abbrev pub MayGo : Originator → ℕ → List ℕ → ℕ → Type 0
MayGo o device came receiver = MayBeSent o.forwarder.agent.tables o.forwarder.devices.list.items
    o.forwarder.receivers.list.items device came receiver

-- the datagram is the SNMPv2-Trap of that notification, sealed for the receiver's user
abbrev pub IsItsTrap : (o : Originator) (device : ℕ) (came : List ℕ) (receiver : ℕ) → MayGo o device came receiver
    → List ℕ → Type 0
IsItsTrap o device came receiver may datagram = (by : Sealing)
    × SealsTrap o.forwarder.agent by may.to may.from.context.items may.pdu (Ok datagram)

-- it is the InformRequest of that notification, sealed for the receiver's user
abbrev pub IsItsInform : (o : Originator) (device : ℕ) (came : List ℕ) (receiver : ℕ) → MayGo o device came receiver
    → List ℕ → Type 0
IsItsInform o device came receiver may datagram = (held : Held) × (engine : List ℕ) × (inform : Inform)
    × (by : Sealing) × IsInformOf receiver may.to may.from.context.items came inform
    × SealsInform held o.informs.engine engine inform by (Ok datagram)

-- it is one of these, of a notification with these variables, of each of which the receiver may be notified
pub record IsOfNotification (o : Originator) (receiver : ℕ) (datagram : List ℕ) : Type 0 where
  pub device : ℕ
  pub came : List ℕ
  pub number : ℕ
  pub number_is : number ≡ receiver
  pub may : MayGo o device came number
  pub each : All (λ (v : Variable). notified_in o.forwarder.agent.tables may.to may.from.context.items v.name)
      (variables_of may.pdu.list)
  pub is : IsItsTrap o device came number may datagram ⊎ IsItsInform o device came number may datagram

-- it asks a receiver's engine for its ID or its time
abbrev pub HasNoVariables : List ℕ → Type 0
HasNoVariables datagram = (held : Held) × (by : Sealing) × (pending : Pending)
    × (SendsDiscovery held by pending datagram
    ⊎ ((engine : List ℕ) × (inform : Inform) × SendsTimeRequest held engine inform by pending datagram))

-- what goes out of this originator
abbrev pub TellsNotified : Originator → Notice → Type 0
TellsNotified o (Notifies receiver datagram) = IsOfNotification o receiver datagram.items
TellsNotified o (Asks receiver datagram) = HasNoVariables datagram.items
TellsNotified o Nothing = ⊤
