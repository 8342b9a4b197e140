-- A forwarder of notifications with what its configuration says, and what its calls leave.
--
-- `ForwardHeld`: a forwarder, and what came of the last call (`Noted`). `IsForwarderOf`: a forwarder of a configuration
-- that nothing has reached; `receiver_said`: a receiver that it says; `inform_limits`: how often an Inform is sent.
--
-- `TakesTrap`, `TakesReceiver`, `SendsOn`: what becomes of a datagram of a device and of one of a receiver, and what
-- goes out, each a step of a notification originator (`OriginatorSteps`) with what is reported of it. `RunsOut`: there
-- was no memory. `EmptiesForwarder`: all is given back.
use Rattle.std.specs.Prelude.{◌≡◌, ◌≤◌, ◌⊎◌, ⊤, ℕ, List, [], All, length, map, Option, Some, None, Result}
use Rattle.std.specs.Prelude.{Ok, Err}
use Rattle.std.specs.FinMap as finite_map
use Rattle.engine_clock.specs.Pairs.{pair_max}
use Rattle.usm_users.specs.User.{User}
use Rattle.vacm_core.specs.Tables.{Tables}
use Rattle.snmp_ber.specs.declared.level.Level.{Level}
use Rattle.snmp_message.specs.declared.refusal.Refusal.TheVariants.{OutOfMemory}
use Rattle.snmp_agent.specs.Agent.{AgentState}
use Rattle.snmp_requests.specs.declared.device_request.SentMessage.{SentMessage}
use Rattle.snmp_requests.specs.declared.device_request.SentMessage.TheVariants.{Discovery, TimeRequest, Request}
use Rattle.snmp_forward.specs.InformStanding.{InformsStand}
use Rattle.snmp_forward.specs.Originating.{OriginatorSteps, finds_no_memory, goes_out, receives, trap_comes}
use Rattle.snmp_forward.specs.Standing.{ForwarderStands, IsTrapTaken}
use Rattle.snmp_forward.specs.WaitingInforms.{IsDue}
use Rattle.snmp_forward.specs.declared.exchange.InformLimits.{InformLimits}
use Rattle.snmp_forward.specs.declared.queue.TheConstants.{WAITING_LIMIT}
use Rattle.snmp_forward.specs.declared.receivers.NotifyType.{NotifyType}
use Rattle.snmp_forward.specs.declared.receivers.NotifyType.TheVariants as notify
use Rattle.snmp_forward.specs.declared.receivers.Receiver.{Receiver}
use Rattle.snmp_forward.specs.declared.forwarder.Forwarder.{Forwarder}
use Rattle.snmp_forward.specs.declared.forwarder.TrapTaken.{TrapTaken}
use Rattle.snmp_forward.specs.declared.forwarder.TrapTaken.TheVariants as trap
use Rattle.snmp_forward.specs.declared.informs.Informs.{Informs}
use Rattle.snmp_forward.specs.declared.informs.ReceiverTaken.{ReceiverTaken}
use Rattle.snmp_forward.specs.declared.informs.ReceiverTaken.TheVariants as answer
use Rattle.snmp_forward.specs.declared.originator.Originated.{Originated}
use Rattle.snmp_forward.specs.declared.originator.Originated.TheVariants as out
use Rattle.snmp_forward.specs.declared.originator.Originator.{Originator}
use Rattle.snmpsec_gate_config.specs.Refusals.{Loads}
use Rattle.snmpsec_gate_config.specs.declared.settings.GateSettings.{GateSettings}
use Rattle.snmpsec_gate_config.specs.declared.settings.DeviceSettings.{DeviceSettings}
use Rattle.snmpsec_gate_config.specs.declared.settings.ReceiverKind.{ReceiverKind}
use Rattle.snmpsec_gate_config.specs.declared.settings.ReceiverKind.TheVariants as kind
use Rattle.snmpsec_gate_config.specs.declared.settings.ReceiverSettings.{ReceiverSettings}
use Rattle.snmp_handles.specs.Agents.{begins}
use Rattle.snmp_handles.specs.declared.fault.CallFault.{CallFault}
use Rattle.snmp_handles.specs.declared.fault.CallFault.TheVariants.{Refused}
use Rattle.gate_handles.specs.Gates.{IsEmptyAgent, RefusesGate, device_parts, device_said}
use Rattle.gate_handles.specs.declared.forward_event.ForwardEvent.{ForwardEvent}
use Rattle.gate_handles.specs.declared.forward_notes.ForwardInfo.{ForwardInfo}
use Rattle.gate_handles.specs.declared.forward_event.ForwardEvent.TheVariants as event
use Rattle.gate_handles.specs.declared.making.TheConstants.{INFORMS_LIMIT}

-- what came of the last call
pub record Noted : Type 0 where
  -- the notification, the receiver and the Inform that the last call was about, if it was about one
  pub number : ℕ
  pub receiver : ℕ
  pub inform : ℕ
  -- what was sent for the Inform, and the counter that its receiver's engine reported, or 0
  pub sent : Option SentMessage
  pub counter : ℕ
  -- the datagram that is to be sent
  pub message : Option (List ℕ)

pub record ForwardHeld : Type 0 where
  pub originator : Originator
  pub noted : Noted

-- ---- making one

-- a receiver, whatever memory it is in
pub record ReceiverParts : Type 0 where
  pub user : List ℕ
  pub level : Level
  pub notify_type : NotifyType

abbrev pub receiver_parts : Receiver → ReceiverParts
receiver_parts r = record { user = r.user.items; level = r.level; notify_type = r.notify_type }

abbrev pub notify_type_said : ReceiverKind → NotifyType
notify_type_said kind.Trap = notify.Trap
notify_type_said kind.Inform = notify.Inform

-- the receiver that the configuration says
abbrev pub receiver_said : ReceiverSettings → ReceiverParts
receiver_said said = record { user = said.user; level = said.level; notify_type = notify_type_said said.kind }

-- a forwarder of notifications of these devices to these receivers, with the agent that begins so, that nothing has
-- reached
pub record IsNewForwarder (agent : AgentState) (devices : List DeviceSettings) (receivers : List ReceiverSettings)
    (forwarder : Forwarder) : Type 0 where
  pub agent_is : forwarder.agent ≡ agent
  pub of_devices : map device_parts forwarder.devices.list.items ≡ map device_said devices
  pub to_receivers : map receiver_parts forwarder.receivers.list.items ≡ map receiver_said receivers
  pub most : forwarder.waiting.most ≡ WAITING_LIMIT
  pub stands : ForwarderStands [] forwarder

-- each message for an Inform is sent 3 times at most, 5 seconds apart
abbrev pub inform_limits : InformLimits
inform_limits = record { again = 5000; tries = 3 }

-- no Inform waits to be sent from this engine, with these users, and no clock of a receiver's engine is held
pub record AreNewInforms (engine : List ℕ) (users : List User) (informs : Informs) : Type 0 where
  pub engine_is : informs.engine ≡ engine
  pub users_are : informs.manager.users ≡ users
  pub no_clocks : informs.manager.clocks ≡ finite_map.empty
  pub limits : informs.limits ≡ inform_limits
  pub most : informs.most ≡ INFORMS_LIMIT
  pub none_wait : informs.list.items ≡ []
  pub stands : InformsStand [] informs

-- such a forwarder, of Traps and of Informs, whose engine's users are these
pub record IsNewOriginator (agent : AgentState) (users : List User) (devices : List DeviceSettings)
    (receivers : List ReceiverSettings) (originator : Originator) : Type 0 where
  pub forwarder : IsNewForwarder agent devices receivers originator.forwarder
  pub none_wait : originator.forwarder.waiting.list.items ≡ []
  pub informs : AreNewInforms agent.engine users originator.informs

-- nothing is noted of what was sent and reported, and no datagram is to be sent; what the call isn't about stays
abbrev pub begun : Noted → Noted
begun noted = record noted { sent = None; counter = 0; message = None }

-- nothing was sent, and nothing reported
abbrev pub IsQuiet : Noted → Type 0
IsQuiet noted = noted ≡ begun noted

-- a forwarder of the configuration, with these boots, whose agent started at this moment, in seconds
pub record IsForwarderOf (config : List ℕ) (boots started : ℕ) (made : ForwardHeld) : Type 0 where
  pub in_range : boots ≤ pair_max
  pub settings : GateSettings
  pub devices : List DeviceSettings
  pub receivers : List ReceiverSettings
  pub users : List User
  pub tables : Tables
  pub loads : Loads config settings devices receivers users tables
  pub originator : IsNewOriginator (begins settings.engine boots started users tables).agent users devices receivers
      made.originator
  pub quiet : IsQuiet made.noted

abbrev pub MakesForwarder : List ℕ → ℕ → ℕ → Result ForwardHeld CallFault → Type 0
MakesForwarder config boots started (Ok made) = IsForwarderOf config boots started made
MakesForwarder config boots started (Err fault) = RefusesGate config boots fault

-- ---- what comes from a device

-- there is no memory, nothing is to be sent, and the forwarder is as before
pub record RunsOut (old : ForwardHeld) (told : Result ForwardEvent CallFault) (new : ForwardHeld) : Type 0 where
  pub fault : told ≡ Err (Refused OutOfMemory)
  pub noted : new.noted ≡ begun old.noted
  pub as_before : OriginatorSteps old.originator finds_no_memory new.originator

-- what is reported of what becomes of a datagram
abbrev pub TellsTrap : TrapTaken → Result ForwardEvent CallFault → Noted → Noted → Type 0
TellsTrap (trap.NotNotification why) told old new = (told ≡ Ok (event.NotNotification why)) × (new ≡ old)
TellsTrap trap.OtherCommunity told old new = (told ≡ Ok event.OtherCommunity) × (new ≡ old)
TellsTrap trap.ForNobody told old new = (told ≡ Ok event.ForNobody) × (new ≡ old)
TellsTrap trap.NoRoom told old new = (told ≡ Ok event.NoRoom) × (new ≡ old)
TellsTrap (trap.Waits n) told old new = (told ≡ Ok event.Waits) × (new ≡ record old { number = n })

-- The datagram is taken, which is a step of the originator.
pub record TookTrap (old : ForwardHeld) (device : ℕ) (datagram : List ℕ) (told : Result ForwardEvent CallFault)
    (new : ForwardHeld) : Type 0 where
  pub taken : TrapTaken
  pub tells : TellsTrap taken told (begun old.noted) new.noted
  pub is : IsTrapTaken old.originator.forwarder device datagram taken
  pub step : OriginatorSteps old.originator (trap_comes device datagram taken) new.originator

abbrev pub TakesTrap : ForwardHeld → ℕ → List ℕ → Result ForwardEvent CallFault → ForwardHeld → Type 0
TakesTrap old device datagram told new = TookTrap old device datagram told new ⊎ RunsOut old told new

-- ---- what comes from a receiver

-- what is reported of what becomes of a datagram
abbrev pub TellsReceiver : ReceiverTaken → Result ForwardEvent CallFault → Noted → Noted → Type 0
TellsReceiver (answer.Refused why) told old new = (told ≡ Err (Refused why)) × (new ≡ old)
TellsReceiver answer.NoAnswer told old new = (told ≡ Ok event.NoAnswer) × (new ≡ old)
TellsReceiver (answer.Heard i) told old new = (told ≡ Ok event.Heard) × (new ≡ record old { inform = i })
TellsReceiver (answer.Acknowledged i) told old new =
    (told ≡ Ok event.Acknowledged) × (new ≡ record old { inform = i })
TellsReceiver (answer.Denied i reported) told old new =
    (told ≡ Ok event.Denied) × (new ≡ record old { inform = i; counter = reported })

-- The datagram is taken, which is a step of the originator.
pub record TookReceiver (old : ForwardHeld) (now from : ℕ) (datagram : List ℕ)
    (told : Result ForwardEvent CallFault) (new : ForwardHeld) : Type 0 where
  pub taken : ReceiverTaken
  pub tells : TellsReceiver taken told (begun old.noted) new.noted
  pub step : OriginatorSteps old.originator (receives now from datagram taken) new.originator

abbrev pub TakesReceiver : ForwardHeld → ℕ → ℕ → List ℕ → Result ForwardEvent CallFault → ForwardHeld → Type 0
TakesReceiver old now from datagram told new = TookReceiver old now from datagram told new ⊎ RunsOut old told new

-- ---- what goes out

abbrev pub about_notification : ℕ → ℕ → Noted → Noted
about_notification n to noted = record noted { number = n; receiver = to }

abbrev pub about_inform : ℕ → ℕ → Noted → Noted
about_inform i to noted = record noted { inform = i; receiver = to }

-- the counter that was reported without authentication, or 0
abbrev pub hinted : Option ℕ → ℕ
hinted None = 0
hinted (Some hint) = hint

-- what is reported of what goes out
abbrev pub TellsOriginated : Originated → Result ForwardEvent CallFault → Noted → Noted → Type 0
TellsOriginated (out.Trap n to datagram) told old new = (told ≡ Ok event.ToReceiver)
    × (new ≡ record (about_notification n to old) { message = Some datagram.items })
TellsOriginated (out.Unsent n to why) told old new = (told ≡ Ok (event.Unsent why))
    × (new ≡ about_notification n to old)
TellsOriginated (out.InformBegins n to i) told old new = (told ≡ Ok event.InformBegins)
    × (new ≡ record (about_notification n to old) { inform = i })
TellsOriginated (out.NoRoom n to) told old new = (told ≡ Ok event.InformNoRoom)
    × (new ≡ about_notification n to old)
TellsOriginated (out.InformSent i to what datagram) told old new = (told ≡ Ok event.InformToReceiver)
    × (new ≡ record (about_inform i to old) { sent = Some what; message = Some datagram.items })
TellsOriginated (out.InformUnsent i to why) told old new = (told ≡ Ok (event.InformUnsent why))
    × (new ≡ about_inform i to old)
TellsOriginated (out.InformGivenUp i to hint) told old new = (told ≡ Ok event.InformGivenUp)
    × (new ≡ record (about_inform i to old) { counter = hinted hint })
TellsOriginated out.Nothing told old new = (told ≡ Ok event.Nothing) × (new ≡ old)

-- What goes out is a step of the originator.
pub record SentOn (old : ForwardHeld) (now : ℕ) (salt : List ℕ) (ask_id : ℕ) (told : Result ForwardEvent CallFault)
    (new : ForwardHeld) : Type 0 where
  pub what : Originated
  pub tells : TellsOriginated what told (begun old.noted) new.noted
  pub step : OriginatorSteps old.originator (goes_out now salt ask_id what) new.originator
  -- there is nothing to do only if no notification waits, and nothing is due for an Inform
  pub nothing : what ≡ out.Nothing → (old.originator.forwarder.waiting.list.items ≡ [])
      × All (λ w. ¬ IsDue now w) old.originator.informs.list.items

abbrev pub SendsOn : ForwardHeld → ℕ → List ℕ → ℕ → Result ForwardEvent CallFault → ForwardHeld → Type 0
SendsOn old now salt ask_id told new = SentOn old now salt ask_id told new ⊎ RunsOut old told new

-- ---- the last call

-- what was sent for an Inform: 1 the discovery, 2 the request for the time of the receiver's engine, 3 the Inform
-- itself; 0 nothing
abbrev pub message_number : Option SentMessage → ℕ
message_number None = 0
message_number (Some Discovery) = 1
message_number (Some TimeRequest) = 2
message_number (Some Request) = 3

-- what the last call was about, and how many notifications and Informs wait
abbrev pub forward_info_of : ForwardHeld → ForwardInfo
forward_info_of held = record {
  notification = held.noted.number;
  inform = held.noted.inform;
  receiver = held.noted.receiver;
  waiting = length held.originator.forwarder.waiting.list.items;
  informs = length held.originator.informs.list.items;
  message = message_number held.noted.sent;
  counter = held.noted.counter;
}

-- ---- giving back

-- no device, no receiver, no user, no row, no notification, no Inform, no clock and no datagram
pub record IsEmptyForwarder (new : ForwardHeld) : Type 0 where
  pub no_users : IsEmptyAgent new.originator.forwarder.agent
  pub originator : IsNewOriginator new.originator.forwarder.agent [] [] [] new.originator
  pub quiet : IsQuiet new.noted

abbrev pub EmptiesForwarder : ForwardHeld → Result ⊤ CallFault → ForwardHeld → Type 0
EmptiesForwarder old (Ok done) new = IsEmptyForwarder new
EmptiesForwarder old (Err fault) new = (fault ≡ Refused OutOfMemory) × (new ≡ old)
