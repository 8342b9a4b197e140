-- A gateway with what it is made of, and what its calls leave.
--
-- `GateHeld`: a gateway, what its configuration says, and what came of the last call. `IsGateOf`: a gateway of a
-- configuration that nothing has reached; `device_said`, `limits_said`: a device and the limits that it says.
-- `RefusesGate`: why there is none, the first that applies. `IsSaid`: what a configuration says, without its gateway.
--
-- `TakesClient`, `TakesDevice`, `SendsNext`: what becomes of a datagram and what goes out, with all that the calls on
-- a gateway promise of the one that is held (`gate`). `IsGateDue`: when something is due by time alone. `RunsOut`:
-- there was no memory. `Empties`: all is given back.
use Rattle.std.specs.Prelude.{◌≡◌, ◌<◌, ◌≤◌, ◌⊎◌, ◌/◌, ⊤, ℕ, List, [], map, Option, Some, None, option_map, Result}
use Rattle.std.specs.Prelude.{Ok, Err, MatchOption, replicate, string_bytes}
use Rattle.engine_clock.specs.Pairs.{pair_max}
use Rattle.usm_users.specs.User.{User}
use Rattle.usm_users.specs.declared.load.UserRow.{UserRow}
use Rattle.vacm_core.specs.Tables.{Tables, HaveSameRows}
use Rattle.vacm_core.specs.declared.rows.AccessRow.{AccessRow}
use Rattle.snmp_message.specs.declared.refusal.Refusal.TheVariants.{OutOfMemory}
use Rattle.snmp_msg.specs.Pdu.{PduParts}
use Rattle.snmp_agent.specs.Agent.{AgentState}
use Rattle.snmp_gate.specs.Beginning.{IsNoRefusal, IsUntaken}
use Rattle.snmp_gate.specs.Bounds.{IsBounded}
use Rattle.snmp_gate.specs.DeviceMessages.{IsDeviceAnswer}
use Rattle.snmp_gate.specs.Counting.{CountsSent}
use Rattle.snmp_gate.specs.Due.{IsFirstDue}
use Rattle.snmp_gate.specs.Fits.{IsFitTold}
use Rattle.snmp_gate.specs.Hidden.{IsHiddenTold}
use Rattle.snmp_gate.specs.RequestTags.{IsNumberOfNone, IsTagOf}
use Rattle.snmp_gate.specs.Runs as runs
use Rattle.snmp_gate.specs.Told.{IsSentTold}
use Rattle.snmp_gate.specs.Untaken.{HasCause}
use Rattle.snmp_gate.specs.Waiting.{Fresh, GateStands, IsAsBefore, IsRefusedBy, Stays, fresh}
use Rattle.snmp_gate.specs.declared.devices.Device.{Device}
use Rattle.snmp_gate.specs.declared.limits.GateLimits.{GateLimits}
use Rattle.snmp_gate.specs.declared.gate.Gate.{Gate}
use Rattle.snmp_gate.specs.declared.gate.ClientTaken.{ClientTaken}
use Rattle.snmp_gate.specs.declared.gate.ClientTaken.TheVariants as client
use Rattle.snmp_gate.specs.declared.gate.DeviceTaken.{DeviceTaken}
use Rattle.snmp_gate.specs.declared.gate.DeviceTaken.TheVariants as device
use Rattle.snmp_gate.specs.declared.gate.Sent.{Sent}
use Rattle.snmp_gate.specs.declared.gate.Sent.TheVariants as out
use Rattle.snmpsec_gate_config.specs.Refusals.{Loads, RefusesText, SaysSound}
use Rattle.snmpsec_gate_config.specs.Views.{views_without_family}
use Rattle.snmpsec_gate_config.specs.declared.fault.GateFault.{GateFault}
use Rattle.snmpsec_gate_config.specs.declared.settings.GateSettings.{GateSettings}
use Rattle.snmpsec_gate_config.specs.declared.settings.DeviceSettings.{DeviceSettings}
use Rattle.snmpsec_gate_config.specs.declared.settings.ReceiverSettings.{ReceiverSettings}
use Rattle.snmp_handles.specs.Agents.{begins, no_rows}
use Rattle.snmp_handles.specs.declared.fault.CallFault.{CallFault}
use Rattle.snmp_handles.specs.declared.fault.CallFault.TheVariants.{Refused, BadArgument, BadConfiguration}
use Rattle.gate_handles.specs.Notes.{note_to}
use Rattle.gate_handles.specs.declared.note.GateNote.{GateNote}
use Rattle.gate_handles.specs.declared.note.GateNote.TheVariants as note
use Rattle.gate_handles.specs.declared.making.TheConstants.{NAMES, JOINED, GATHERED}
use Rattle.gate_handles.specs.declared.event.GateEvent.{GateEvent}
use Rattle.gate_handles.specs.declared.event.GateEvent.TheVariants as event

pub record GateHeld : Type 0 where
  pub gate : Gate
  -- what the configuration says of it, of its devices, of receivers, and of access
  pub settings : GateSettings
  pub devices : List DeviceSettings
  pub receivers : List ReceiverSettings
  pub access : List AccessRow
  -- the read views of access rows that no family row has
  pub views : List (List ℕ)
  -- the request and the device that the last call was about, if it was about one
  pub request : ℕ
  pub device : ℕ
  -- the datagram that is to be sent, and the client whose message is answered, or isn't
  pub message : Option (List ℕ)
  pub client : Option (List ℕ)
  -- what the last call tells besides its event
  pub note : GateNote

-- ---- making one

-- a device, whatever memory it is in
pub record DeviceParts : Type 0 where
  pub context : List ℕ
  pub community : List ℕ
  pub write_community : Option (List ℕ)
  pub max_size : ℕ
  pub repetitions : ℕ
  pub names : ℕ
  pub at_once : ℕ

abbrev pub device_parts : Device → DeviceParts
device_parts d = record {
  context = d.context.items;
  community = d.community.items;
  write_community = option_map (λ c. c.items) d.write_community;
  max_size = d.max_size;
  repetitions = d.repetitions;
  names = d.names;
  at_once = d.at_once;
}

-- the device that the configuration says
abbrev pub device_said : DeviceSettings → DeviceParts
device_said said = record {
  context = said.context;
  community = said.community.items;
  write_community = option_map (λ c. c.items) said.write_community;
  max_size = said.limits.max_size;
  repetitions = said.limits.repetitions;
  names = NAMES;
  at_once = said.limits.at_once;
}

-- the limits that the configuration says, and those that it can't say
abbrev pub limits_said : GateSettings → GateLimits
limits_said said = record {
  waiting = said.limits.waiting;
  waiting_per_device = said.limits.waiting_per_device;
  joined = JOINED;
  rounds = said.limits.rounds;
  retries = record { again = said.limits.again; tries = said.limits.tries; last = said.limits.last };
  gather = said.limits.gather;
  gathered = GATHERED;
  long_answers = said.long_answers;
  report_unreachable = said.report_unreachable;
}

-- nothing came of a call, and nothing is to be sent
pub record IsQuiet (held : GateHeld) : Type 0 where
  pub message : held.message ≡ None
  pub client : held.client ≡ None
  pub note : held.note ≡ note.Nothing

-- the access rows are those of the text, and the views their read views that no family row has
pub record IsAccessOf (config : List ℕ) (access : List AccessRow) (views : List (List ℕ)) : Type 0 where
  pub settings : GateSettings
  pub devices : List DeviceSettings
  pub receivers : List ReceiverSettings
  pub users : List UserRow
  pub rows : Tables
  pub sound : SaysSound config settings devices receivers users rows
  pub is : access ≡ rows.access
  pub views_are : views ≡ views_without_family rows.families rows.access

-- a gateway to these devices, with the agent that begins so, that nothing has reached
pub record IsNewGate (agent : AgentState) (devices : List DeviceSettings) (gate : Gate) : Type 0 where
  pub agent_is : gate.agent ≡ agent
  pub asks : map device_parts gate.devices.list.items ≡ map device_said devices
  pub stands : GateStands 0 [] gate
  pub bounded : IsBounded gate
  pub none_wait : gate.requests.list.items ≡ []

-- a gateway of the configuration, with these boots, whose agent started at this moment, in seconds
pub record IsGateOf (config : List ℕ) (boots started : ℕ) (made : GateHeld) : Type 0 where
  pub in_range : boots ≤ pair_max
  pub users : List User
  pub tables : Tables
  pub loads : Loads config made.settings made.devices made.receivers users tables
  pub access : IsAccessOf config made.access made.views
  pub gate : IsNewGate (begins made.settings.engine boots started users tables).agent made.devices made.gate
  pub limits : made.gate.limits ≡ limits_said made.settings
  pub quiet : IsQuiet made

-- an agent of this engine with no user, which has these rows
abbrev pub IsAgentWithoutUsers : List ℕ → Tables → AgentState → Type 0
IsAgentWithoutUsers engine rows agent = (tables : Tables) × HaveSameRows rows tables
    × (agent ≡ (begins engine 0 0 [] tables).agent)

-- what the configuration says; the gateway has its engine and its access, but no users and no devices
pub record IsSaid (config : List ℕ) (made : GateHeld) : Type 0 where
  pub users : List UserRow
  pub rows : Tables
  pub sound : SaysSound config made.settings made.devices made.receivers users rows
  pub access : made.access ≡ rows.access
  pub views : made.views ≡ views_without_family rows.families rows.access
  pub agent : IsAgentWithoutUsers made.settings.engine rows made.gate.agent
  pub gate : IsNewGate made.gate.agent [] made.gate
  pub limits : made.gate.limits ≡ limits_said made.settings
  pub quiet : IsQuiet made

-- the text is refused as a configuration, or there was no memory
abbrev pub RefusesConfig : List ℕ → CallFault → Type 0
RefusesConfig config BadConfiguration = (fault : GateFault) × RefusesText config fault
RefusesConfig config (Refused fault) = fault ≡ OutOfMemory
RefusesConfig config _ = ⊥

-- why none is made, the first that applies
abbrev pub RefusesGate : List ℕ → ℕ → CallFault → Type 0
RefusesGate config boots BadArgument = pair_max < boots
RefusesGate config boots fault = (boots ≤ pair_max) × RefusesConfig config fault

abbrev pub MakesGate : List ℕ → ℕ → ℕ → Result GateHeld CallFault → Type 0
MakesGate config boots started (Ok made) = IsGateOf config boots started made
MakesGate config boots started (Err fault) = RefusesGate config boots fault

abbrev pub ReadsGate : List ℕ → Result GateHeld CallFault → Type 0
ReadsGate config (Ok made) = IsSaid config made
ReadsGate config (Err fault) = RefusesConfig config fault

-- ---- what stays

-- the datagram that is to be sent, and to whom, and what else is reported
abbrev pub Leaves : GateHeld → Option (List ℕ) → Option (List ℕ) → GateNote → Type 0
Leaves new to datagram note = (new.client ≡ to) × (new.message ≡ datagram) × (new.note ≡ note)

-- what the configuration says stays
pub record KeepsSaid (old new : GateHeld) : Type 0 where
  pub settings : new.settings ≡ old.settings
  pub devices : new.devices ≡ old.devices
  pub receivers : new.receivers ≡ old.receivers
  pub access : new.access ≡ old.access
  pub views : new.views ≡ old.views

-- there is no memory, nothing is to be sent, and the gateway is as before, at this moment in milliseconds
pub record RunsOut (old : GateHeld) (now : ℕ) (told : Result GateEvent CallFault) (new : GateHeld) : Type 0 where
  pub fault : told ≡ Err (Refused OutOfMemory)
  pub quiet : IsQuiet new
  pub as_before : IsAsBefore now old.gate new.gate
  pub stays : Stays old.gate new.gate

-- ---- what comes from a client

-- nothing is to be sent; the number and the PDU's tag of the request for which the message waits are reported
abbrev pub LeavesRequest : GateHeld → ℕ → Type 0
LeavesRequest new number = (new.request ≡ number) × ((tag : Option ℕ) × Leaves new None None (note.Request tag)
    × MatchOption tag (IsNumberOfNone new.gate.requests.list.items number)
    (IsTagOf new.gate.requests.list.items number))

-- what is reported of what becomes of it
abbrev pub TellsClient : ClientTaken → Result GateEvent CallFault → GateHeld → Type 0
TellsClient (client.Refused refused) told new = (told ≡ Err (Refused refused.why.refusal))
    × Leaves new None (option_map (λ v. v.items) refused.report) note.Nothing
TellsClient (client.Begins number) told new = (told ≡ Ok event.Begins) × LeavesRequest new number
TellsClient (client.Joins number) told new = (told ≡ Ok event.Joins) × LeavesRequest new number
TellsClient client.NoRoom told new = (told ≡ Ok event.NoRoom) × IsQuiet new
TellsClient client.SetOfBefore told new = (told ≡ Ok event.SetOfBefore) × IsQuiet new

-- The datagram is taken as the gateway promises. What happens by that is lawful; a refusal has its cause and its
-- report, and changes the agent alone, which nothing else changes; and a datagram that isn't taken has its cause, and
-- leaves all as before.
pub record TookClient (old : GateHeld) (now : ℕ) (from datagram : List ℕ) (told : Result GateEvent CallFault)
    (new : GateHeld) : Type 0 where
  pub taken : ClientTaken
  pub tells : TellsClient taken told new
  pub takes : runs.TakesClient old.gate now from datagram taken new.gate
  pub refused : IsRefusedBy old.gate (now / 1000) datagram new.gate taken
  pub untaken : IsUntaken taken → IsAsBefore now old.gate new.gate
  pub cause : HasCause old.gate now datagram taken
  pub counted : IsNoRefusal taken → new.gate.agent ≡ old.gate.agent

abbrev pub TakesClient : GateHeld → ℕ → List ℕ → List ℕ → Result GateEvent CallFault → GateHeld → Type 0
TakesClient old now from datagram told new = KeepsSaid old new
    × (TookClient old now from datagram told new ⊎ RunsOut old now told new)

-- ---- what comes from a device

abbrev pub TellsDevice : DeviceTaken → Result GateEvent CallFault → GateHeld → Type 0
TellsDevice (device.Answers number says fault hidden) told new = (told ≡ Ok event.Answers) × (new.request ≡ number)
    × Leaves new None None (note.Answer says fault hidden)
TellsDevice device.NotWaitedFor told new = (told ≡ Ok event.NotWaitedFor) × IsQuiet new
TellsDevice device.Unreadable told new = (told ≡ Ok event.Unreadable) × IsQuiet new

-- The datagram is taken as the gateway promises. It is unreadable only if it is no device's answer, and the agent
-- counts nothing. Its device is reported.
pub record TookDevice (old : GateHeld) (now number : ℕ) (datagram : List ℕ) (told : Result GateEvent CallFault)
    (new : GateHeld) : Type 0 where
  pub taken : DeviceTaken
  pub tells : TellsDevice taken told new
  pub fits : IsFitTold old.gate number datagram taken
  pub hidden : IsHiddenTold old.gate number datagram taken
  pub takes : runs.TakesDevice old.gate now number datagram taken new.gate
  pub unreadable : taken ≡ device.Unreadable → (community : List ℕ) (p : PduParts)
      → ¬ IsDeviceAnswer datagram community p
  pub counted : new.gate.agent ≡ old.gate.agent
  pub device_is : new.device ≡ number

abbrev pub TakesDevice : GateHeld → ℕ → ℕ → List ℕ → Result GateEvent CallFault → GateHeld → Type 0
TakesDevice old now number datagram told new = KeepsSaid old new
    × (TookDevice old now number datagram told new ⊎ RunsOut old now told new)

-- ---- what goes out

abbrev pub TellsSent : Sent → Result GateEvent CallFault → GateHeld → Type 0
TellsSent (out.ToClient number to says datagram ended) told new = (told ≡ Ok event.ToClient) × (new.request ≡ number)
    × Leaves new (Some to.client.items) (Some datagram.items) (note_to says ended)
TellsSent (out.ToDevice number to datagram again) told new = (told ≡ Ok event.ToDevice) × (new.request ≡ number)
    × (new.device ≡ to) × Leaves new None (Some datagram.items) (note.Asked again)
TellsSent (out.Unanswered number to why ended) told new = (told ≡ Ok (event.Unanswered why)) × (new.request ≡ number)
    × Leaves new (Some to.client.items) None (note.Unanswered ended)
TellsSent (out.GivenUp number to times) told new = (told ≡ Ok event.GivenUp) × (new.request ≡ number)
    × (new.device ≡ to) × Leaves new None None (note.GivenUp times)
TellsSent out.Nothing told new = (told ≡ Ok event.Nothing) × IsQuiet new

-- What goes out is what the gateway promises, and the agent counts it. There is nothing only if no request has ended,
-- and nothing is due for any by time alone.
pub record Sends (old : GateHeld) (now : ℕ) (f : Fresh) (told : Result GateEvent CallFault) (new : GateHeld)
    : Type 0 where
  pub sent : Sent
  pub tells : TellsSent sent told new
  pub sends : runs.SendsNext old.gate now f sent new.gate
  pub told_of : IsSentTold old.gate sent
  pub counted : CountsSent old.gate.agent new.gate.agent sent

abbrev pub SendsNext : GateHeld → ℕ → List ℕ → ℕ → Result GateEvent CallFault → GateHeld → Type 0
SendsNext old now salt ask_id told new = KeepsSaid old new
    × (Sends old now (fresh salt ask_id) told new ⊎ RunsOut old now told new)

-- when something is due by time alone: at the first moment of all requests'
abbrev pub IsGateDue : Gate → Option ℕ → Type 0
IsGateDue gate due = MatchOption due (gate.requests.list.items ≡ [])
    (IsFirstDue gate.limits gate.requests.list.items)

-- ---- giving back

-- an agent with no user and no row
abbrev pub IsEmptyAgent : AgentState → Type 0
IsEmptyAgent agent = IsAgentWithoutUsers (replicate 5 0) no_rows agent

-- no device, no receiver, no user, no row, no request and no datagram
pub record IsEmpty (new : GateHeld) : Type 0 where
  pub no_users : IsEmptyAgent new.gate.agent
  pub gate : IsNewGate new.gate.agent [] new.gate
  pub path : string_bytes new.settings.boots ≡ []
  pub listens : new.settings.listen.items ≡ []
  pub takes_no_traps : new.settings.traps.items ≡ []
  pub no_devices : new.devices ≡ []
  pub no_receivers : new.receivers ≡ []
  pub no_access : new.access ≡ []
  pub no_views : new.views ≡ []
  pub quiet : IsQuiet new

abbrev pub Empties : GateHeld → Result ⊤ CallFault → GateHeld → Type 0
Empties old (Ok done) new = IsEmpty new
Empties old (Err fault) new = (fault ≡ Refused OutOfMemory) × (new ≡ old)
