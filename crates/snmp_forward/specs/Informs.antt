-- What is sent as an Inform, and what its receiver is sent for it (RFC 3413, section 3.3; RFC 3414, section 4; RFC
-- 3416, section 4.2.7).
--
-- `IsInformOf`: the Inform by which a receiver is notified of what a device sent. `IsInformFor`: the same, if it may be
-- notified. `IsMediated`: an Inform is one of these. `inform_to`: as what it goes out. `SealsTimeRequest`,
-- `SealsInform`: what comes of sealing the request for an engine's boots and time, and an Inform. `SendsDiscovery`,
-- `SendsTimeRequest`, `SendsInform`: the message that goes out, and what is remembered of it.
use Rattle.std.specs.Prelude.{◌≡◌, ◌≢◌, ◌⊎◌, ℕ, pos, true, List, [], None, Some, Option, Result, Err, Ok}
use Rattle.std.specs.Global.{Vec}
use Rattle.engine_clock.specs.Marks.{SeenPair, mark_at}
use Rattle.snmp_ber.specs.declared.level.Level.TheVariants.{AuthNoPriv, NoAuthNoPriv}
use Rattle.snmp_message.specs.Numbers.{in_table}
use Rattle.snmp_message.specs.declared.refusal.Refusal.{Refusal}
use Rattle.snmp_message.specs.declared.refusal.Refusal.TheVariants.{NotMessage}
use Rattle.snmp_message.specs.declared.refused_at.RefusedAt.{RefusedAt}
use Rattle.snmp_msg.specs.Pdu.{PduParts, pdu_with}
use Rattle.snmp_msg.specs.PduTypes.{pdu_tag}
use Rattle.snmp_msg.specs.Variables.{variables_of}
use Rattle.snmp_msg.specs.declared.pdu_type.PduType.TheVariants.{InformRequest}
use Rattle.usm_core.specs.Sealed.{Seals}
use Rattle.vacm_core.specs.Tables.{Tables}
use Rattle.snmp_gate.specs.declared.devices.Device.{Device}
use Rattle.snmp_outgoing.specs.Requests.{asking_time, discovering, written_pair}
use Rattle.snmp_outgoing.specs.Speaks.{Speech, spoken}
use Rattle.snmp_manager.specs.Pendings.{Remembers}
use Rattle.snmp_manager.specs.Views.{Held}
use Rattle.snmp_manager.specs.declared.pending.Pending.{Pending}
use Rattle.snmp_forward.specs.Notifications.{IsNoNotification, IsNotification}
use Rattle.snmp_forward.specs.Sending.{MayBeSent}
use Rattle.snmp_forward.specs.declared.asking.AskedWith.{AskedWith}
use Rattle.snmp_forward.specs.declared.asking.AskedWith.TheVariants.{Sends, Refused}
use Rattle.snmp_forward.specs.declared.inform.Inform.{Inform}
use Rattle.snmp_forward.specs.declared.notification.NotNotification.{NotNotification}
use Rattle.snmp_forward.specs.declared.receivers.Receiver.{Receiver}
use Rattle.snmp_forward.specs.declared.sealing.Sealing.{Sealing}

-- the receiver with this number is notified of what a device sent, in the device's context
pub record IsInformOf (number : ℕ) (to : Receiver) (context datagram : List ℕ) (i : Inform) : Type 0 where
  pub receiver : i.receiver ≡ number
  pub user : i.user.items ≡ to.user.items
  pub level : i.level ≡ to.level
  pub context_is : i.context.items ≡ context
  pub datagram_is : i.datagram.items ≡ datagram

-- the Inform for the receiver with this number, if it may be sent the notification of the device with that number
abbrev pub IsInformFor : Tables → List Device → List Receiver → ℕ → List ℕ → ℕ → Option Inform → Type 0
IsInformFor tables devices receivers device datagram n None =
    ¬ MayBeSent tables devices receivers device datagram n
IsInformFor tables devices receivers device datagram n (Some inform) =
    (may : MayBeSent tables devices receivers device datagram n)
    × IsInformOf n may.to may.from.context.items datagram inform

-- it is the Inform of a notification that a device sent, for a receiver that may be sent it
pub record IsMediated (tables : Tables) (devices : List Device) (receivers : List Receiver) (inform : Inform)
    : Type 0 where
  pub device : ℕ
  pub datagram : List ℕ
  pub receiver : ℕ
  pub may : MayBeSent tables devices receivers device datagram receiver
  pub is_of : IsInformOf receiver may.to may.from.context.items datagram inform

-- ---- as what messages go out

-- an InformRequest with the request-id and the very variables of the device's, in the device's context of the own
-- engine: to the receiver's engine with the boots and the time that are held of it, for the receiver's user at its
-- level
abbrev pub inform_to : List ℕ → List ℕ → Option SeenPair → Sealing → Inform → PduParts → Speech
inform_to own engine held by inform pdu = record {
  level = inform.level;
  id = by.id;
  reportable = true;
  engine = engine;
  pair = written_pair inform.level held by.seconds;
  user = inform.user.items;
  salt = by.salt;
  context_engine = own;
  context_name = inform.context.items;
  pdu = pdu_with (pdu_tag InformRequest) pdu.id (pos 0) (pos 0) (variables_of pdu.list);
}

-- ---- what comes of sealing them, and what is remembered of them

abbrev pub SendsDiscovery : Held → Sealing → Pending → List ℕ → Type 0
SendsDiscovery held by pending datagram = Seals held.users (discovering by.id) (Ok datagram)
    × Remembers pending by.id [] [] NoAuthNoPriv [] [] (pos by.id)

-- what comes of sealing the request for the time, which goes to the receiver's engine for its user at authNoPriv
abbrev pub SealsTimeRequest : Held → List ℕ → Inform → Sealing → Result (List ℕ) Refusal → Type 0
SealsTimeRequest held engine inform by answer =
    Seals held.users (asking_time by.id engine inform.user.items) answer

abbrev pub SendsTimeRequest : Held → List ℕ → Inform → Sealing → Pending → List ℕ → Type 0
SendsTimeRequest held engine inform by pending datagram = SealsTimeRequest held engine inform by (Ok datagram)
    × Remembers pending by.id engine inform.user.items AuthNoPriv engine [] (pos by.id)

-- what comes of sealing the Inform of a notification
pub record SealsInform (held : Held) (own engine : List ℕ) (inform : Inform) (by : Sealing)
    (answer : Result (List ℕ) Refusal) : Type 0 where
  pub community : List ℕ
  pub pdu : PduParts
  pub trap_oid : List ℕ
  pub is : IsNotification inform.datagram.items community pdu trap_oid
  pub seals : Seals held.users (spoken (inform_to own engine (mark_at held.clocks engine) by inform pdu)) answer

pub record SendsInform (held : Held) (own engine : List ℕ) (inform : Inform) (by : Sealing) (pending : Pending)
    (datagram : List ℕ) : Type 0 where
  pub inform_is : SealsInform held own engine inform by (Ok datagram)
  pub remembers : Remembers pending by.id engine inform.user.items inform.level own inform.context.items
      inform_is.pdu.id

-- nothing that isn't a notification is sent
pub record IsNothingToSend (inform : Inform) (why : Refusal) : Type 0 where
  pub cause : NotNotification
  pub none : IsNoNotification inform.datagram.items cause
  pub why_is : why ≡ NotMessage

abbrev pub RefusesInform : Held → List ℕ → List ℕ → Inform → Sealing → Refusal → Type 0
RefusesInform held own engine inform by why =
    SealsInform held own engine inform by (Err why) ⊎ IsNothingToSend inform why

-- ---- by what is returned

abbrev pub IsDiscoveryWritten : Held → Sealing → AskedWith → Type 0
IsDiscoveryWritten held by (Sends datagram pending) = SendsDiscovery held by pending datagram.items
IsDiscoveryWritten held by (Refused why) = ⊥

abbrev pub IsTimeRequestWritten : Held → List ℕ → Inform → Sealing → AskedWith → Type 0
IsTimeRequestWritten held engine inform by (Sends datagram pending) =
    SendsTimeRequest held engine inform by pending datagram.items
IsTimeRequestWritten held engine inform by (Refused why) = SealsTimeRequest held engine inform by (Err why)

abbrev pub IsInformWritten : Held → List ℕ → List ℕ → Inform → Sealing → AskedWith → Type 0
IsInformWritten held own engine inform by (Sends datagram pending) =
    SendsInform held own engine inform by pending datagram.items
IsInformWritten held own engine inform by (Refused why) = RefusesInform held own engine inform by why

-- ---- between the functions

-- what a manager wrote, but for out of memory
abbrev pub IsAskedOf : Result (Vec ℕ × Pending) RefusedAt → AskedWith → Type 0
IsAskedOf (Ok sent) (Sends datagram pending) = (sent.0 ≡ datagram) × (sent.1 ≡ pending)
IsAskedOf (Err e) (Refused why) = (e.refusal ≡ why) × (in_table why ≢ None)
IsAskedOf (Ok sent) (Refused why) = ⊥
IsAskedOf (Err e) (Sends datagram pending) = ⊥
