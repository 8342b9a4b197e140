-- A notification originator (RFC 3413, section 3.3): what its calls promise, and over any run of them.
--
-- An originator does what a forwarder and Informs do: `Originates` says which of it a call does. `OriginatorEvent`: a
-- call and its answer. `IsOriginatorRun`: the events of an originator, the latest first. `IsOriginatorHistoryOf`: a
-- history of its notifications and one of its Informs that are lawful. `IsPartOf`: one list is the other but for some
-- elements.
use Rattle.std.specs.Prelude.{◌≡◌, ◌≢◌, ◌⊎◌, ◌%◌, ⊤, ℕ, List, [], ◌∷◌, ◌++◌, All, None, Option, Some, map}
use Rattle.snmp_gate.specs.declared.asks.TheConstants.{REQUEST_IDS}
use Rattle.snmp_forward.specs.History.{AreLawful, Happening}
use Rattle.snmp_forward.specs.InformHistory.{AreInformsLawful, InformHappening}
use Rattle.snmp_forward.specs.InformRuns.{AddsOne, TakesOne, acknowledged_by, answered_in, asked_in, begun_in}
use Rattle.snmp_forward.specs.InformRuns as informs
use Rattle.snmp_forward.specs.InformStanding.{AreAsBefore, IsFull, setting_of}
use Rattle.snmp_forward.specs.Informs.{IsMediated}
use Rattle.snmp_forward.specs.Runs.{SendsNext, TakesTrap, sent_in, taken_in, turned_in, waits_by}
use Rattle.snmp_forward.specs.Standing.{IsAsBefore}
use Rattle.snmp_forward.specs.WaitingInforms.{IsFirstDue}
use Rattle.snmp_forward.specs.declared.forwarder.Forwarded.TheVariants as forwarded
use Rattle.snmp_forward.specs.declared.forwarder.TrapTaken.{TrapTaken}
use Rattle.snmp_forward.specs.declared.forwarder.TrapTurn.{TrapTurn}
use Rattle.snmp_forward.specs.declared.inform.Inform.{Inform}
use Rattle.snmp_forward.specs.declared.informs.InformSent.{InformSent}
use Rattle.snmp_forward.specs.declared.informs.InformSent.TheVariants as sent
use Rattle.snmp_forward.specs.declared.informs.ReceiverTaken.{ReceiverTaken}
use Rattle.snmp_forward.specs.declared.originator.Originated.{Originated}
use Rattle.snmp_forward.specs.declared.originator.Originated.TheVariants as out
use Rattle.snmp_forward.specs.declared.originator.Originator.{Originator}
use Rattle.snmp_forward.specs.declared.trap.Written.{Written}
use Rattle.snmp_forward.specs.declared.trap.Written.TheVariants.{Refused, Sends}

-- ---- what is reported

abbrev pub trap_told : ℕ → ℕ → Written → Originated
trap_told number receiver (Sends datagram) = out.Trap number receiver datagram
trap_told number receiver (Refused why) = out.Unsent number receiver why

abbrev pub trap_as : TrapTurn → Originated
trap_as turn = trap_told turn.number turn.receiver turn.written

abbrev pub inform_as : InformSent → Originated
inform_as (sent.ToReceiver number receiver message datagram) = out.InformSent number receiver message datagram
inform_as (sent.Unsent number receiver why) = out.InformUnsent number receiver why
inform_as (sent.GivenUp number receiver hint) = out.InformGivenUp number receiver hint
inform_as sent.Nothing = out.Nothing

-- ---- what goes out

-- the notification that waits longest is dealt with for the first of its receivers, as this Inform
pub record BecomesInform (old : Originator) (now : ℕ) (salt : List ℕ) (ask_id number receiver : ℕ) (inform : Inform)
    (new : Originator) : Type 0 where
  pub turn : SendsNext old.forwarder now salt ask_id (forwarded.AsInform number inform) new.forwarder
  pub to : inform.receiver ≡ receiver

-- no notification waits, and this is done for Informs
pub record DoesInform (old : Originator) (now : ℕ) (salt : List ℕ) (ask_id : ℕ) (what : InformSent)
    (new : Originator) : Type 0 where
  pub idle : old.forwarder.waiting.list.items ≡ []
  pub forwarder : new.forwarder ≡ old.forwarder
  pub sends : informs.SendsNext old.informs now salt (ask_id % REQUEST_IDS) what new.informs

abbrev pub Originates : Originator → ℕ → List ℕ → ℕ → Originated → Originator → Type 0
Originates old now salt ask_id (out.Trap number receiver datagram) new =
    SendsNext old.forwarder now salt ask_id (forwarded.ToReceiver number receiver datagram) new.forwarder
    × (new.informs ≡ old.informs)
Originates old now salt ask_id (out.Unsent number receiver why) new =
    SendsNext old.forwarder now salt ask_id (forwarded.Unsent number receiver why) new.forwarder
    × (new.informs ≡ old.informs)
Originates old now salt ask_id (out.InformBegins number receiver begun) new = (inform : Inform)
    × BecomesInform old now salt ask_id number receiver inform new × AddsOne old.informs inform begun new.informs
Originates old now salt ask_id (out.NoRoom number receiver) new = (inform : Inform)
    × BecomesInform old now salt ask_id number receiver inform new × IsFull old.informs × (new.informs ≡ old.informs)
Originates old now salt ask_id (out.InformSent number receiver message datagram) new =
    DoesInform old now salt ask_id (sent.ToReceiver number receiver message datagram) new
Originates old now salt ask_id (out.InformUnsent number receiver why) new =
    DoesInform old now salt ask_id (sent.Unsent number receiver why) new
Originates old now salt ask_id (out.InformGivenUp number receiver hint) new =
    DoesInform old now salt ask_id (sent.GivenUp number receiver hint) new
Originates old now salt ask_id out.Nothing new = DoesInform old now salt ask_id sent.Nothing new

-- nothing changes
pub record IsSameOriginator (old new : Originator) : Type 0 where
  pub forwarder : IsAsBefore old.forwarder new.forwarder
  pub informs : AreAsBefore old.informs new.informs

-- when there is something to do by time alone: at once if a notification waits, else when it is for the first Inform
abbrev pub IsOriginatorDue : Originator → Option ℕ → Type 0
IsOriginatorDue o None = (o.forwarder.waiting.list.items ≡ []) × (o.informs.list.items ≡ [])
IsOriginatorDue o (Some at) = ((o.forwarder.waiting.list.items ≢ []) × (at ≡ 0))
    ⊎ ((o.forwarder.waiting.list.items ≡ []) × IsFirstDue o.informs.list.items at)

-- ---- call by call

-- moments are milliseconds
pub data OriginatorEvent : Type 0 where
  -- `take_trap` takes a datagram from the device of this number
  trap_comes : (device : ℕ) (datagram : List ℕ) (becomes : TrapTaken) → OriginatorEvent
  -- `take_receiver` takes a datagram from the receiver of this number
  receives : (now receiver : ℕ) (datagram : List ℕ) (becomes : ReceiverTaken) → OriginatorEvent
  -- `next` says what goes out
  goes_out : (now : ℕ) (salt : List ℕ) (ask_id : ℕ) (what : Originated) → OriginatorEvent
  -- one of these calls finds no memory
  finds_no_memory : OriginatorEvent

-- what the calls promise of an originator and what it becomes
abbrev pub OriginatorSteps : Originator → OriginatorEvent → Originator → Type 0
OriginatorSteps old (trap_comes device datagram becomes) new =
    TakesTrap old.forwarder device datagram becomes new.forwarder × (new.informs ≡ old.informs)
OriginatorSteps old (receives now receiver datagram becomes) new =
    TakesOne old.informs now receiver datagram becomes new.informs × (new.forwarder ≡ old.forwarder)
OriginatorSteps old (goes_out now salt ask_id what) new = Originates old now salt ask_id what new
OriginatorSteps old finds_no_memory new = IsSameOriginator old new

-- the events lead from one originator to the other
abbrev pub IsOriginatorRun : Originator → List OriginatorEvent → Originator → Type 0
IsOriginatorRun first [] last = last ≡ first
IsOriginatorRun first (event ∷ before) last =
    (middle : Originator) × IsOriginatorRun first before middle × OriginatorSteps middle event last

-- ---- what came, and what went out

-- the device's number and the datagram of each notification that came to wait
abbrev pub came_by : OriginatorEvent → List (ℕ × List ℕ)
came_by (trap_comes device datagram becomes) = waits_by device datagram becomes
came_by event = []

-- the receiver's number and the datagram of each Trap
abbrev pub trap_in : Originated → List (ℕ × List ℕ)
trap_in (out.Trap number receiver datagram) = (receiver, datagram.items) ∷ []
trap_in what = []

abbrev pub traps_by : OriginatorEvent → List (ℕ × List ℕ)
traps_by (goes_out now salt ask_id what) = trap_in what
traps_by event = []

-- the receiver's number of each Inform that began
abbrev pub begun_for : Originated → List ℕ
begun_for (out.InformBegins number receiver inform) = receiver ∷ []
begun_for what = []

abbrev pub begun_by : OriginatorEvent → List ℕ
begun_by (goes_out now salt ask_id what) = begun_for what
begun_by event = []

-- the receiver's number and the datagram of each message for an Inform
abbrev pub message_in : Originated → List (ℕ × List ℕ)
message_in (out.InformSent number receiver message datagram) = (receiver, datagram.items) ∷ []
message_in what = []

abbrev pub messages_by : OriginatorEvent → List (ℕ × List ℕ)
messages_by (goes_out now salt ask_id what) = message_in what
messages_by event = []

-- the number of each Inform that was acknowledged
abbrev pub ended_by : OriginatorEvent → List ℕ
ended_by (receives now receiver datagram becomes) = acknowledged_by becomes
ended_by event = []

-- of all the events
abbrev pub in_all : {A : Type 0} → (OriginatorEvent → List A) → List OriginatorEvent → List A
in_all of [] = []
in_all of (event ∷ before) = of event ++ in_all of before

-- the one list is the other but for some of its elements
abbrev pub IsPartOf : {A : Type 0} → List A → List A → Type 0
IsPartOf [] ys = ⊤
IsPartOf (x ∷ xs) [] = ⊥
IsPartOf (x ∷ xs) (y ∷ ys) = ((x ≡ y) × IsPartOf xs ys) ⊎ IsPartOf (x ∷ xs) ys

abbrev pub receiver_of : Inform → ℕ
receiver_of inform = inform.receiver

-- what came, went out and was acknowledged is what happened to notifications and to Informs, and all of it is lawful
pub record IsOriginatorHistoryOf (o : Originator) (events : List OriginatorEvent) (notifications : List Happening)
    (informs : List InformHappening) : Type 0 where
  pub lawful : AreLawful o.forwarder.agent o.forwarder.devices.list.items o.forwarder.receivers.list.items
      notifications
  pub informs_lawful : AreInformsLawful (setting_of o.informs) informs
  -- the Informs that began are those that notifications became, but for those for which there was no room
  pub begun : IsPartOf (begun_in informs) (turned_in notifications)
  pub mediated : All (IsMediated o.forwarder.agent.tables o.forwarder.devices.list.items
      o.forwarder.receivers.list.items) (begun_in informs)
  pub came : in_all came_by events ≡ taken_in notifications
  pub traps : in_all traps_by events ≡ sent_in notifications
  pub begins : in_all begun_by events ≡ map receiver_of (begun_in informs)
  pub messages : in_all messages_by events ≡ asked_in informs
  pub acknowledged : in_all ended_by events ≡ answered_in informs
