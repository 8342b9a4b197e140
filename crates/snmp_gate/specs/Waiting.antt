-- What is known of the requests that wait at a gateway, by what happened before.
--
-- `OpenStands`: a request whose device is asked, or is to be asked. `GroupStands`: a request with its messages.
-- `CausesStand`: why a request has no Response. `GateStands`: all of a gateway. `ClientHappens`, `DeviceHappens`,
-- `SendHappens`: what happens by a call, and that it is lawful after what happened before. `IsIdFrom`: with which
-- request-id a device is asked. `SameButSets`, `IsAsBefore`: what stays the same.
use Rattle.std.specs.Prelude.{◌≡◌, ◌≢◌, ◌⊎◌, ◌+◌, ◌/◌, ◌<◌, ◌≤◌, ⊤, ℕ, List, [], ◌∷◌, All, AllPairs, Contains, Some}
use Rattle.std.specs.Prelude.{◌-◌, ◌%◌, ◌^◌, min}
use Rattle.std.specs.Prelude.{None, Option, map, slice_index_or, slice_set}
use Rattle.std.specs.List.{HoldsAt}
use Rattle.sha2.specs.Sha256.{sha256}
use Rattle.snmp_msg.specs.Pdu.{PduParts}
use Rattle.vacm_core.specs.Tables.{Tables}
use Rattle.snmp_message.specs.Numbers.{in_table}
use Rattle.usm_core.specs.Table.{refusal_answer}
use Rattle.snmp_agent.specs.Agent.{AgentTakes}
use Rattle.snmp_agent.specs.Report.{AgentReports, IsShortReport, report_of}
use Rattle.gateway_laws.specs.Requests.{RequestPdu}
use Rattle.snmp_gate.specs.AskRuns.{HaveOwnIds}
use Rattle.snmp_gate.specs.Asks.{Ends, IsNextFree, Waits, ask_of}
use Rattle.snmp_gate.specs.Bounds.{IsBounded}
use Rattle.snmp_gate.specs.Causes.{EndsOnlyBy, IfWorkEnds}
use Rattle.snmp_gate.specs.Devices.{IsDeviceOf}
use Rattle.snmp_gate.specs.Groups.{Group, groups_of}
use Rattle.snmp_gate.specs.History.{CameFor, Happening, IsAccepted, IsCauseFor, IsToldAgain, OpenAsk}
use Rattle.snmp_gate.specs.History.{WasTold, accepted, answered}
use Rattle.snmp_gate.specs.History.{asked, given_up, number_of, open_ask, sent, told_in, unanswered, waiting_in}
use Rattle.snmp_gate.specs.Lawful.{IsLawful, IsSetRequest, ShareNoDatagram, WasAsked}
use Rattle.snmp_gate.specs.Limits.{IsAllowedBy, IsSilent, asks_since}
use Rattle.snmp_gate.specs.Messages.{question_in}
use Rattle.snmp_gate.specs.Noting.{AsksSet}
use Rattle.snmp_gate.specs.Question.{Question}
use Rattle.snmp_gate.specs.Replies.{Answering, SameAgent, answer_with}
use Rattle.snmp_gate.specs.Sets.{IsKept, KeepsSets}
use Rattle.snmp_gate.specs.Taking.{AllWorkSaysSame}
use Rattle.snmp_gate.specs.Time.{times_asked}
use Rattle.snmp_gate.specs.Work.{EndingStands, TaskStands, most_repetitions, request_of_task}
use Rattle.snmp_gate.specs.declared.asks.DeviceAsk.{DeviceAsk}
use Rattle.snmp_gate.specs.declared.asks.DeviceAsks.{DeviceAsks}
use Rattle.snmp_gate.specs.declared.asks.TheConstants.{REQUEST_IDS}
use Rattle.snmp_gate.specs.declared.devices.Device.{Device}
use Rattle.snmp_gate.specs.declared.gate.ClientTaken.{ClientTaken}
use Rattle.snmp_gate.specs.declared.gate.ClientTaken.TheVariants as client
use Rattle.snmp_gate.specs.declared.gate.DeviceTaken.{DeviceTaken}
use Rattle.snmp_gate.specs.declared.gate.DeviceTaken.TheVariants as device
use Rattle.snmp_gate.specs.declared.gate.Gate.{Gate}
use Rattle.snmp_gate.specs.declared.gate.Sent.{Sent}
use Rattle.snmp_gate.specs.declared.gate.Sent.TheVariants as out
use Rattle.snmp_gate.specs.declared.limits.GateLimits.{GateLimits}
use Rattle.snmp_gate.specs.declared.set_answer.ResponseStatus.{ResponseStatus}
use Rattle.snmp_gate.specs.declared.sets.RememberedSet.{RememberedSet}
use Rattle.snmp_gate.specs.declared.sets.TheConstants.{REMEMBERED}
use Rattle.snmp_gate.specs.declared.task.Task.TheVariants.{Set}
use Rattle.snmp_gate.specs.declared.waiting_message.WaitingMessage.{WaitingMessage}
use Rattle.snmp_gate.specs.declared.work.OpenRequest.{OpenRequest}
use Rattle.snmp_gate.specs.declared.work.RequestEnd.TheVariants.{Repeated}
use Rattle.snmp_gate.specs.declared.work.Work.{Work}
use Rattle.snmp_gate.specs.declared.work.Work.TheVariants as work
use Rattle.snmp_gate.specs.declared.work.Work.TheVariants.{Open}

-- each message that was accepted for the request of this number came at this moment or later
abbrev pub AllCameFrom : List Happening → ℕ → ℕ → Type 0
AllCameFrom before n began = (now : ℕ) (datagram : List ℕ) (m : WaitingMessage)
    → Contains before (accepted n now datagram m) → began ≤ now

-- the device is that of the context, its answers are those of this request, and it is asked what the task asks
pub record OpenStands (tables : Tables) (devices : List Device) (before : List Happening) (n : ℕ) (q : Question)
    (o : OpenRequest) : Type 0 where
  pub task : TaskStands tables q (told_in n before) o.task.task
  pub device : IsDeviceOf devices q.context o.device
  -- for no more repetitions than it is configured for
  pub repetitions : HoldsAt (λ (d : Device). most_repetitions o.task.task ≤ d.repetitions) devices o.device
  pub asked : (id : ℕ) → o.asked ≡ Some id → open_ask n before
      ≡ Some (record { device = o.device; id = id; request = request_of_task q o.task.task })
  -- a Set that isn't asked now never was
  pub set_once : o.task.task ≡ Set → o.asked ≡ None → ¬ WasAsked before n
  pub came : AllCameFrom before n o.timer.began
  -- its timer counts how often its device was asked and didn't answer
  pub unasked : o.asked ≡ None → asks_since n before ≡ 0
  pub tried : min (asks_since n before) (2 ^ 32 - 1) ≤ times_asked o.timer.turn

abbrev pub WorkStands : Tables → List Device → List Happening → ℕ → Question → Work → Type 0
WorkStands tables devices before n q (Open o) = OpenStands tables devices before n q o
WorkStands tables devices before n q (work.Ends e) = EndingStands tables q (told_in n before) e

-- each message that was accepted for the request of this number asks this
abbrev pub AllAsk : List Happening → ℕ → Question → Type 0
AllAsk before n q = (now : ℕ) (datagram : List ℕ) (m : WaitingMessage)
    → Contains before (accepted n now datagram m) → question_in m ≡ Some q

-- its messages were accepted, wait in this order, and ask one thing
pub record GroupStands (tables : Tables) (devices : List Device) (before : List Happening)
    (g : Group WaitingMessage Work) : Type 0 where
  pub question : Question
  pub asks : All (λ (m : WaitingMessage). question_in m ≡ Some question) g.messages
  pub are_accepted : All (IsAccepted before g.number) g.messages
  pub wait : waiting_in g.number before ≡ g.messages
  pub one : AllAsk before g.number question
  pub work : WorkStands tables devices before g.number question g.work

-- the requests' numbers rise, and are less than the next one
pub record AreNumbered (next : ℕ) (groups : List (Group WaitingMessage Work)) : Type 0 where
  pub rise : AllPairs (λ (a b : Group WaitingMessage Work). a.number < b.number) groups
  pub less : All (λ (g : Group WaitingMessage Work). g.number < next) groups

pub record GroupsStand (tables : Tables) (devices : List Device) (before : List Happening) (next : ℕ)
    (groups : List (Group WaitingMessage Work)) : Type 0 where
  pub all : All (GroupStands tables devices before) groups
  pub numbered : AreNumbered next groups
  -- of no later request anything happened
  pub past : All (λ (e : Happening). number_of e < next) before
  -- no message waits for another request
  pub gone : (n : ℕ) → All (λ (g : Group WaitingMessage Work). g.number ≢ n) groups → waiting_in n before ≡ []

abbrev pub RequestsStand : List Happening → Gate → Type 0
RequestsStand before g = GroupsStand g.agent.tables g.devices.list.items before g.requests.next
    (groups_of g.requests.list.items)

-- what the devices are asked
abbrev pub asks_in : List DeviceAsks → List (List DeviceAsk)
asks_in asks = map (λ (a : DeviceAsks). a.asks.items) asks

-- what the devices are asked: each ask that waits has its request-id among those of its device
pub record AsksStand (before : List Happening) (asks : List (List DeviceAsk)) : Type 0 where
  pub own : All HaveOwnIds asks
  pub there : (n : ℕ) (ask : OpenAsk) → open_ask n before ≡ Some ask
      → Contains (slice_index_or asks ask.device []) (ask_of ask.id n)

-- a Set by the request of this number was asked, or is to be asked
abbrev pub GoesOut : List Happening → List (Group WaitingMessage Work) → ℕ → Type 0
GoesOut before groups n = (WasAsked before n × IsSetRequest before n)
    ⊎ ((g : Group WaitingMessage Work) × Contains groups g × (g.number ≡ n) × AsksSet g.work)

-- the Sets: at this moment each datagram is remembered that came in the last 301 seconds for a Set that goes out, and
-- no two such Sets have come by one
pub record SetsStand (now : ℕ) (before : List Happening) (groups : List (Group WaitingMessage Work))
    (sets : List RememberedSet) : Type 0 where
  pub past : (n at : ℕ) (datagram : List ℕ) (m : WaitingMessage) → Contains before (accepted n at datagram m)
      → at ≤ now
  pub known : (n at : ℕ) (datagram : List ℕ) (m : WaitingMessage) → Contains before (accepted n at datagram m)
      → GoesOut before groups n → now ≤ at + REMEMBERED → IsKept (sha256 datagram) at sets
  pub apart : (a b : ℕ) → a ≢ b → GoesOut before groups a → GoesOut before groups b → ShareNoDatagram before a b

-- what is remembered of Sets: each came when it says, and its outcome was told of it; and a request ends by what was
-- told before only if that may be told again of each of its messages
pub record OutcomesStand (before : List Happening) (groups : List (Group WaitingMessage Work))
    (sets : List RememberedSet) : Type 0 where
  pub digests : (n at : ℕ) (datagram digest : List ℕ) (m : WaitingMessage)
      → Contains before (accepted n at datagram m) → m.digest ≡ Some digest → digest ≡ sha256 datagram
  pub came : (set : RememberedSet) → Contains sets set
      → (number : ℕ) × CameFor before set.digest number set.came
  pub told : (set : RememberedSet) (says : ResponseStatus) → Contains sets set → set.outcome ≡ Some says
      → WasTold before set.digest says
  pub again : (g : Group WaitingMessage Work) (says : ResponseStatus) (m : WaitingMessage) → Contains groups g
      → g.work ≡ work.Ends (Repeated says) → Contains g.messages m → IsToldAgain before g.number m says

-- a request ends without a Response only by a cause of what its messages ask, and in silence only if it was given up
-- and isn't reported
abbrev pub EndsByCause : GateLimits → List ℕ → Tables → List Device → List Happening → Group WaitingMessage Work
    → Type 0
EndsByCause limits engine tables devices before g = (m : WaitingMessage) (q : Question) → Contains g.messages m
    → question_in m ≡ Some q
    → IfWorkEnds (EndsOnlyBy (IsCauseFor engine tables devices before g.number q) (IsSilent limits before g.number q))
    g.work

abbrev pub CausesStand : List Happening → Gate → Type 0
CausesStand before g = All (EndsByCause g.limits g.agent.engine g.agent.tables g.devices.list.items before)
    (groups_of g.requests.list.items)

-- all that is known of a gateway at a moment: the last one at which it took or sent something
pub record GateStands (now : ℕ) (before : List Happening) (g : Gate) : Type 0 where
  pub requests : RequestsStand before g
  pub asks : AsksStand before (asks_in g.asks.items)
  pub sets : SetsStand now before (groups_of g.requests.list.items) g.sets.sets.items
  pub outcomes : OutcomesStand before (groups_of g.requests.list.items) g.sets.sets.items
  pub causes : CausesStand before g

-- all is the same but the Sets that are remembered
pub record SameButSets (old new : Gate) : Type 0 where
  pub agent : new.agent ≡ old.agent
  pub devices : new.devices ≡ old.devices
  pub limits : new.limits ≡ old.limits
  pub asks : new.asks ≡ old.asks
  pub requests : new.requests ≡ old.requests

-- all is the same but what the devices are asked
pub record SameButAsks (old new : Gate) : Type 0 where
  pub agent : new.agent ≡ old.agent
  pub devices : new.devices ≡ old.devices
  pub limits : new.limits ≡ old.limits
  pub sets : new.sets ≡ old.sets
  pub requests : new.requests ≡ old.requests

-- what the device is asked with a request-id waits no longer, if it is asked
pub data EndsAsk (device : ℕ) (asked : Option ℕ) (old new : List (List DeviceAsk)) : Type 0 where
  none : asked ≡ None → new ≡ old → EndsAsk device asked old new
  idle : (id : ℕ) → asked ≡ Some id → ¬ Waits (slice_index_or old device []) id → new ≡ old
      → EndsAsk device asked old new
  ends : (id request : ℕ) (left : List DeviceAsk) → asked ≡ Some id
      → Ends (slice_index_or old device []) (ask_of id request) left → new ≡ slice_set old device left
      → EndsAsk device asked old new

-- the numbers of the requests, and the messages that ask them
abbrev pub messages_in : List (Group WaitingMessage Work) → List (ℕ × List WaitingMessage)
messages_in groups = map (λ (g : Group WaitingMessage Work). (g.number, g.messages)) groups

-- all is as before, but that Sets which came over 301 seconds ago may be forgotten
pub record IsAsBefore (now : ℕ) (old new : Gate) : Type 0 where
  pub agent : new.agent ≡ old.agent
  pub devices : new.devices ≡ old.devices
  pub limits : new.limits ≡ old.limits
  pub asks : asks_in new.asks.items ≡ asks_in old.asks.items
  pub messages : messages_in (groups_of new.requests.list.items) ≡ messages_in (groups_of old.requests.list.items)
  pub work : AllWorkSaysSame (groups_of old.requests.list.items) (groups_of new.requests.list.items)
  pub next : new.requests.next ≡ old.requests.next
  pub sets : KeepsSets now old.sets.sets.items new.sets.sets.items
  pub stands : (since : ℕ) (before : List Happening) → since ≤ now → GateStands since before old
      → GateStands now before new

-- what happens is lawful, and the gateway stands after it
pub record Happens (old : Gate) (now : ℕ) (before : List Happening) (happening : Happening) (new : Gate) : Type 0 where
  pub lawful : IsLawful old.agent old.devices.list.items before happening
  pub allowed : IsAllowedBy old.limits old.devices.list.items before happening
  pub stands : GateStands now (happening ∷ before) new

-- a message of this client is accepted
abbrev pub Accepts : Gate → ℕ → List Happening → List ℕ → List ℕ → ℕ → Gate → Type 0
Accepts old now before client datagram n new = (m : WaitingMessage) × (m.client.items ≡ client)
    × Happens old now before (accepted n now datagram m) new

abbrev pub ClientHappens : Gate → ℕ → List Happening → List ℕ → List ℕ → ClientTaken → Gate → Type 0
ClientHappens old now before from datagram (client.Begins n) new = Accepts old now before from datagram n new
ClientHappens old now before from datagram (client.Joins n) new = Accepts old now before from datagram n new
ClientHappens old now before from datagram _ new = GateStands now before new

abbrev pub DeviceHappens : Gate → ℕ → List Happening → ℕ → List ℕ → DeviceTaken → Gate → Type 0
DeviceHappens old now before number datagram (device.Answers n says fault hidden) new =
    (p : PduParts) × Happens old now before (answered n number p datagram) new
DeviceHappens old now before number datagram _ new = GateStands now before new

-- the agent that answers at this moment, in milliseconds, with this salt
abbrev pub answering_at : Gate → ℕ → List ℕ → Answering
answering_at old now salt = record { agent = old.agent; now = now / 1000; salt = salt }

-- what a caller chooses for a call: a salt, and a request-id
pub record Fresh : Type 0 where
  pub salt : List ℕ
  pub ask_id : ℕ

abbrev pub fresh : List ℕ → ℕ → Fresh
fresh salt ask_id = record { salt = salt; ask_id = ask_id % REQUEST_IDS }

-- the device is asked with this request-id: the first one, from the caller's on, with which it isn't asked; or it was
-- asked with it for this request, and didn't answer
abbrev pub IsIdFrom : Gate → List Happening → ℕ → ℕ → ℕ → ℕ → Type 0
IsIdFrom old before number device from id = IsNextFree (slice_index_or (asks_in old.asks.items) device []) from id
    ⊎ ((request : RequestPdu)
    × (open_ask number before ≡ Some (record { device = device; id = id; request = request })))

abbrev pub SendHappens : Gate → ℕ → List Happening → Fresh → Sent → Gate → Type 0
SendHappens old now before f (out.ToClient number to says datagram ended) new = (m : WaitingMessage) × (to ≡ m)
    × Happens old now before (sent number m (answering_at old now f.salt) (answer_with says datagram)) new
SendHappens old now before f (out.ToDevice number to datagram again) new = (id : ℕ) × (request : RequestPdu)
    × IsIdFrom old before number to f.ask_id id
    × Happens old now before (asked number to id request datagram.items) new
SendHappens old now before f (out.Unanswered number to why ended) new = (m : WaitingMessage) × (to ≡ m)
    × Happens old now before (unanswered number m (answering_at old now f.salt) why) new
SendHappens old now before f (out.GivenUp number to times) new = Happens old now before (given_up number to) new
SendHappens old now before f out.Nothing new = GateStands now before new

-- a device is asked nothing
abbrev pub AsksNothing : DeviceAsks → Type 0
AsksNothing asks = asks.asks.items ≡ []

-- nothing changed but the agent
pub record IsSameElse (old new : Gate) : Type 0 where
  pub devices : new.devices ≡ old.devices
  pub limits : new.limits ≡ old.limits
  pub requests : new.requests ≡ old.requests
  pub asks : new.asks ≡ old.asks
  pub sets : new.sets ≡ old.sets

-- if a client's datagram is refused, the agent refuses it so, counts it and writes the report (RFC 3412, section 7.2),
-- which is short, and nothing else changes
abbrev pub IsRefusedBy : Gate → ℕ → List ℕ → Gate → ClientTaken → Type 0
IsRefusedBy old seconds datagram new (client.Refused r) =
    AgentTakes old.agent seconds datagram (refusal_answer r.why.refusal) new.agent
    × (AgentReports new.agent seconds datagram (in_table r.why.refusal) (report_of r.report) × IsSameElse old new)
    × IsShortReport r.report
IsRefusedBy old seconds datagram new _ = ⊤

-- the same engine, boots, users, tables, devices and limits, and it keeps to them
pub record Stays (old new : Gate) : Type 0 where
  pub agent : SameAgent old.agent new.agent
  pub devices : new.devices ≡ old.devices
  pub limits : new.limits ≡ old.limits
  pub bounded : IsBounded old → IsBounded new
