-- What is known of a forwarder, by what happened before, and what happens by its calls.
--
-- `ForwarderStands`: all that is known of it. `TrapHappens`, `SendHappens`: what happens by a call, and that it is
-- lawful after what happened before. `IsTrapTaken`: what becomes of a device's datagram. `Stays`: what never changes.
-- `IsAsBefore`: nothing changes.
use Rattle.std.specs.Prelude.{◌≡◌, ◌≢◌, ◌<◌, ◌≤◌, ◌/◌, ◌%◌, ℕ, List, [], ◌∷◌, All, AllPairs, Contains, length}
use Rattle.vacm_core.specs.Tables.{Tables}
use Rattle.snmp_gate.specs.declared.asks.TheConstants.{REQUEST_IDS}
use Rattle.snmp_gate.specs.declared.devices.Device.{Device}
use Rattle.snmp_forward.specs.Choosing.{IsFromDevice, IsFromNoDevice}
use Rattle.snmp_forward.specs.History.{Happening, IsLawful, as_inform, left_in, number_of, sent, taken, unsent}
use Rattle.snmp_forward.specs.Notifications.{IsNoNotification}
use Rattle.snmp_forward.specs.Queue.{IsFull, Waiting, waitings_of}
use Rattle.snmp_forward.specs.Sending.{MayBeSent}
use Rattle.snmp_forward.specs.declared.forwarder.Forwarder.{Forwarder}
use Rattle.snmp_forward.specs.declared.forwarder.Forwarded.{Forwarded}
use Rattle.snmp_forward.specs.declared.forwarder.Forwarded.TheVariants as out
use Rattle.snmp_forward.specs.declared.forwarder.TrapTaken.{TrapTaken}
use Rattle.snmp_forward.specs.declared.forwarder.TrapTaken.TheVariants as trap
use Rattle.snmp_forward.specs.declared.receivers.Receiver.{Receiver}
use Rattle.snmp_forward.specs.declared.sealing.Sealing.{Sealing}

-- it was taken, and may be sent to each of the receivers to which it is still to be sent
pub record WaitingStands (tables : Tables) (devices : List Device) (receivers : List Receiver)
    (before : List Happening) (w : Waiting) : Type 0 where
  pub to : List ℕ
  pub is_taken : Contains before (taken w.number w.device w.datagram to)
  pub left : left_in w.number before ≡ w.left
  pub may : All (MayBeSent tables devices receivers w.device w.datagram) w.left

-- the notification of this number is among them
abbrev pub IsKept : List Waiting → ℕ → Type 0
IsKept ws n = (w : Waiting) × Contains ws w × (w.number ≡ n)

pub record QueueStands (tables : Tables) (devices : List Device) (receivers : List Receiver)
    (before : List Happening) (next : ℕ) (ws : List Waiting) : Type 0 where
  pub all : All (WaitingStands tables devices receivers before) ws
  -- each waits that has receivers left
  pub kept : (n : ℕ) → left_in n before ≢ [] → IsKept ws n
  -- their numbers rise
  pub rise : AllPairs (λ (a b : Waiting). a.number < b.number) ws
  -- nothing happened to a later one
  pub past : All (λ (e : Happening). number_of e < next) before

pub record ForwarderStands (before : List Happening) (f : Forwarder) : Type 0 where
  pub engine : f.engine ≡ f.agent.engine
  pub queue : QueueStands f.agent.tables f.devices.list.items f.receivers.list.items before f.waiting.next
      (waitings_of f.waiting.list.items)
  pub few : length f.waiting.list.items ≤ f.waiting.most

-- what happens is lawful, and the forwarder stands after it
pub record Happens (old : Forwarder) (before : List Happening) (happening : Happening) (new : Forwarder)
    : Type 0 where
  pub lawful : IsLawful old.agent old.devices.list.items old.receivers.list.items before happening
  pub stands : ForwarderStands (happening ∷ before) new

abbrev pub TrapHappens : Forwarder → List Happening → ℕ → List ℕ → TrapTaken → Forwarder → Type 0
TrapHappens old before device datagram (trap.Waits n) new = (to : List ℕ)
    × Happens old before (taken n device datagram to) new
TrapHappens old before device datagram _ new = ForwarderStands before new

abbrev pub sealing_at : ℕ → List ℕ → ℕ → Sealing
sealing_at now salt ask_id = record { seconds = now / 1000; id = ask_id % REQUEST_IDS; salt = salt }

abbrev pub SendHappens : Forwarder → List Happening → Sealing → Forwarded → Forwarder → Type 0
SendHappens old before by (out.ToReceiver n receiver datagram) new =
    Happens old before (sent n receiver by datagram.items) new
SendHappens old before by (out.Unsent n receiver why) new = Happens old before (unsent n receiver by why) new
SendHappens old before by (out.AsInform n inform) new = Happens old before (as_inform n inform) new
SendHappens old before by out.Nothing new = ForwarderStands before new

-- nobody may be sent it
abbrev pub IsForNobody : Forwarder → ℕ → List ℕ → Type 0
IsForNobody f device datagram = (n : ℕ)
    → ¬ MayBeSent f.agent.tables f.devices.list.items f.receivers.list.items device datagram n

-- somebody may
abbrev pub IsForSomebody : Forwarder → ℕ → List ℕ → Type 0
IsForSomebody f device datagram = (n : ℕ)
    × MayBeSent f.agent.tables f.devices.list.items f.receivers.list.items device datagram n

-- what becomes of a device's datagram
abbrev pub IsTrapTaken : Forwarder → ℕ → List ℕ → TrapTaken → Type 0
IsTrapTaken f device datagram (trap.NotNotification why) = IsNoNotification datagram why
IsTrapTaken f device datagram trap.OtherCommunity = IsFromNoDevice f.devices.list.items device datagram
IsTrapTaken f device datagram trap.ForNobody = IsFromDevice f.devices.list.items device datagram
    × IsForNobody f device datagram
IsTrapTaken f device datagram trap.NoRoom = IsForSomebody f device datagram × IsFull f.waiting
IsTrapTaken f device datagram (trap.Waits n) = IsForSomebody f device datagram

-- the same engine, boots, users, tables, counters, devices and receivers, and as many notifications may wait
pub record Stays (old new : Forwarder) : Type 0 where
  pub agent : new.agent ≡ old.agent
  pub devices : new.devices ≡ old.devices
  pub receivers : new.receivers ≡ old.receivers
  pub engine : new.engine ≡ old.engine
  pub most : new.waiting.most ≡ old.waiting.most

-- and what waits is the same
pub record IsAsBefore (old new : Forwarder) : Type 0 where
  pub stays : Stays old new
  pub list : new.waiting.list.items ≡ old.waiting.list.items
  pub next : new.waiting.next ≡ old.waiting.next
