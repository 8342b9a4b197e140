-- What a gateway gets and what goes out of it, call by call.
--
-- `Event`: a call and its answer. `IsRun`: the events of a gateway, the latest first, where moments don't go back.
-- `taken_from`, `answers_of`: the datagrams that came and were taken. `to_devices`, `to_clients`: those that went out.
-- `accepted_in`, `answered_in`, `asked_in`, `sent_in`: those of a history. `IsHistoryOf`: a lawful history of these
-- events. `accepted_for`, `ended_for`: the messages of a request.
use Rattle.std.specs.Prelude.{◌≡◌, ◌≤◌, ◌/◌, ⊤, cond, nat_eq, ℕ, List, [], ◌∷◌, ◌++◌, All}
use Rattle.snmp_agent.specs.Agent.{AgentState}
use Rattle.snmp_gate.specs.Due.{AreIdle}
use Rattle.snmp_gate.specs.History.{Happening, accepted, answered, asked, given_up, sent, unanswered}
use Rattle.snmp_gate.specs.Lawful.{AreLawful}
use Rattle.snmp_gate.specs.Replies.{ClientAnswer, SameAgent, answer_with}
use Rattle.snmp_gate.specs.Waiting.{ClientHappens, DeviceHappens, Fresh, GateStands, IsAsBefore, SendHappens, Stays}
use Rattle.snmp_gate.specs.declared.gate.ClientTaken.{ClientTaken}
use Rattle.snmp_gate.specs.declared.gate.ClientTaken.TheVariants.{Begins, Joins}
use Rattle.snmp_gate.specs.declared.gate.DeviceTaken.{DeviceTaken}
use Rattle.snmp_gate.specs.declared.gate.DeviceTaken.TheVariants.{Answers}
use Rattle.snmp_gate.specs.declared.gate.Gate.{Gate}
use Rattle.snmp_gate.specs.declared.gate.Sent.{Sent}
use Rattle.snmp_gate.specs.declared.gate.Sent.TheVariants.{Nothing, ToClient, ToDevice}
use Rattle.snmp_gate.specs.declared.waiting_message.WaitingMessage.{WaitingMessage}

-- moments are milliseconds
pub data Event : Type 0 where
  -- `take_client` takes a datagram from a client
  client_comes : (now : ℕ) (client datagram : List ℕ) (taken : ClientTaken) → Event
  -- `take_device` takes a datagram from the device of this number
  device_comes : (now device : ℕ) (datagram : List ℕ) (taken : DeviceTaken) → Event
  -- `next` says what goes out
  goes_out : (now : ℕ) (f : Fresh) (what : Sent) → Event
  -- one of these calls finds no memory
  finds_no_memory : (now : ℕ) → Event

-- what the calls promise of a gateway and what it becomes
abbrev pub TakesClient : Gate → ℕ → List ℕ → List ℕ → ClientTaken → Gate → Type 0
TakesClient old now client datagram taken new = Stays old new
    × ((since : ℕ) (before : List Happening) → since ≤ now → GateStands since before old
    → ClientHappens old now before client datagram taken new)

abbrev pub TakesDevice : Gate → ℕ → ℕ → List ℕ → DeviceTaken → Gate → Type 0
TakesDevice old now device datagram taken new = Stays old new
    × ((since : ℕ) (before : List Happening) → since ≤ now → GateStands since before old
    → DeviceHappens old now before device datagram taken new)

abbrev pub SendsNext : Gate → ℕ → Fresh → Sent → Gate → Type 0
SendsNext old now f what new = Stays old new
    × (what ≡ Nothing → AreIdle new.limits now new.requests.list.items)
    × ((since : ℕ) (before : List Happening) → since ≤ now → GateStands since before old
    → SendHappens old now before f what new)

-- the moment of the latest event, or 0
abbrev pub moment_of : List Event → ℕ
moment_of [] = 0
moment_of (client_comes now client datagram taken ∷ before) = now
moment_of (device_comes now device datagram taken ∷ before) = now
moment_of (goes_out now f what ∷ before) = now
moment_of (finds_no_memory now ∷ before) = now

-- the events lead from one gateway to the other
abbrev pub IsRun : Gate → List Event → Gate → Type 0
IsRun first [] last = last ≡ first
IsRun first (client_comes now client datagram taken ∷ before) last = (moment_of before ≤ now)
    × ((middle : Gate) × IsRun first before middle × TakesClient middle now client datagram taken last)
IsRun first (device_comes now device datagram taken ∷ before) last = (moment_of before ≤ now)
    × ((middle : Gate) × IsRun first before middle × TakesDevice middle now device datagram taken last)
IsRun first (goes_out now f what ∷ before) last = (moment_of before ≤ now)
    × ((middle : Gate) × IsRun first before middle × SendsNext middle now f what last)
IsRun first (finds_no_memory now ∷ before) last = (moment_of before ≤ now)
    × ((middle : Gate) × IsRun first before middle × Stays middle last × IsAsBefore now middle last)

-- ---- what came

-- the datagram of a client that was accepted, with its moment and the client's address
abbrev pub accepted_by : ℕ → List ℕ → List ℕ → ClientTaken → List (ℕ × List ℕ × List ℕ)
accepted_by now client datagram (Begins number) = (now, client, datagram) ∷ []
accepted_by now client datagram (Joins number) = (now, client, datagram) ∷ []
accepted_by now client datagram _ = []

abbrev pub taken_from : List Event → List (ℕ × List ℕ × List ℕ)
taken_from [] = []
taken_from (client_comes now client datagram taken ∷ before) =
    accepted_by now client datagram taken ++ taken_from before
taken_from (device_comes now device datagram taken ∷ before) = taken_from before
taken_from (goes_out now f what ∷ before) = taken_from before
taken_from (finds_no_memory now ∷ before) = taken_from before

-- the datagram of a device that was taken as an answer, with the device's number
abbrev pub answer_by : ℕ → List ℕ → DeviceTaken → List (ℕ × List ℕ)
answer_by device datagram (Answers number says fault hidden) = (device, datagram) ∷ []
answer_by device datagram _ = []

abbrev pub answers_of : List Event → List (ℕ × List ℕ)
answers_of [] = []
answers_of (device_comes now device datagram taken ∷ before) = answer_by device datagram taken ++ answers_of before
answers_of (client_comes now client datagram taken ∷ before) = answers_of before
answers_of (goes_out now f what ∷ before) = answers_of before
answers_of (finds_no_memory now ∷ before) = answers_of before

-- ---- what went out

-- to a device, by its number, or to a client, by its address
abbrev pub sent_to_device : Sent → List (ℕ × List ℕ)
sent_to_device (ToDevice number device datagram again) = (device, datagram.items) ∷ []
sent_to_device _ = []

abbrev pub sent_to_client : Sent → List (List ℕ × ClientAnswer)
sent_to_client (ToClient number message says datagram ended) =
    (message.client.items, answer_with says datagram) ∷ []
sent_to_client _ = []

abbrev pub to_devices : List Event → List (ℕ × List ℕ)
to_devices [] = []
to_devices (goes_out now f what ∷ before) = sent_to_device what ++ to_devices before
to_devices (client_comes now client datagram taken ∷ before) = to_devices before
to_devices (device_comes now device datagram taken ∷ before) = to_devices before
to_devices (finds_no_memory now ∷ before) = to_devices before

abbrev pub to_clients : List Event → List (List ℕ × ClientAnswer)
to_clients [] = []
to_clients (goes_out now f what ∷ before) = sent_to_client what ++ to_clients before
to_clients (client_comes now client datagram taken ∷ before) = to_clients before
to_clients (device_comes now device datagram taken ∷ before) = to_clients before
to_clients (finds_no_memory now ∷ before) = to_clients before

-- the moments, in seconds, and the salts of what went out to clients
abbrev pub sealed_by : ℕ → Fresh → Sent → List (ℕ × List ℕ)
sealed_by now f (ToClient number message says datagram ended) = (now / 1000, f.salt) ∷ []
sealed_by now f _ = []

abbrev pub sealed_with : List Event → List (ℕ × List ℕ)
sealed_with [] = []
sealed_with (goes_out now f what ∷ before) = sealed_by now f what ++ sealed_with before
sealed_with (client_comes now client datagram taken ∷ before) = sealed_with before
sealed_with (device_comes now device datagram taken ∷ before) = sealed_with before
sealed_with (finds_no_memory now ∷ before) = sealed_with before

-- the same, of a history
abbrev pub accepted_in : List Happening → List (ℕ × List ℕ × List ℕ)
accepted_in [] = []
accepted_in (accepted number now datagram message ∷ before) =
    (now, message.client.items, datagram) ∷ accepted_in before
accepted_in (asked number device id request datagram ∷ before) = accepted_in before
accepted_in (answered number device answer datagram ∷ before) = accepted_in before
accepted_in (sent number message by answer ∷ before) = accepted_in before
accepted_in (unanswered number message by why ∷ before) = accepted_in before
accepted_in (given_up number device ∷ before) = accepted_in before

abbrev pub answered_in : List Happening → List (ℕ × List ℕ)
answered_in [] = []
answered_in (answered number device answer datagram ∷ before) = (device, datagram) ∷ answered_in before
answered_in (accepted number now datagram message ∷ before) = answered_in before
answered_in (asked number device id request datagram ∷ before) = answered_in before
answered_in (sent number message by answer ∷ before) = answered_in before
answered_in (unanswered number message by why ∷ before) = answered_in before
answered_in (given_up number device ∷ before) = answered_in before

abbrev pub sealed_in : List Happening → List (ℕ × List ℕ)
sealed_in [] = []
sealed_in (sent number message by answer ∷ before) = (by.now, by.salt) ∷ sealed_in before
sealed_in (accepted number now datagram message ∷ before) = sealed_in before
sealed_in (asked number device id request datagram ∷ before) = sealed_in before
sealed_in (answered number device answer datagram ∷ before) = sealed_in before
sealed_in (unanswered number message by why ∷ before) = sealed_in before
sealed_in (given_up number device ∷ before) = sealed_in before

-- what is sent, or isn't, is this agent's, whatever it has counted meanwhile
abbrev pub IsSealedBy : AgentState → Happening → Type 0
IsSealedBy agent (sent number message by answer) = SameAgent agent by.agent
IsSealedBy agent (accepted number now datagram message) = ⊤
IsSealedBy agent (asked number device id request datagram) = ⊤
IsSealedBy agent (answered number device answer datagram) = ⊤
IsSealedBy agent (unanswered number message by why) = SameAgent agent by.agent
IsSealedBy agent (given_up number device) = ⊤

abbrev pub asked_in : List Happening → List (ℕ × List ℕ)
asked_in [] = []
asked_in (asked number device id request datagram ∷ before) = (device, datagram) ∷ asked_in before
asked_in (accepted number now datagram message ∷ before) = asked_in before
asked_in (answered number device answer datagram ∷ before) = asked_in before
asked_in (sent number message by answer ∷ before) = asked_in before
asked_in (unanswered number message by why ∷ before) = asked_in before
asked_in (given_up number device ∷ before) = asked_in before

abbrev pub sent_in : List Happening → List (List ℕ × ClientAnswer)
sent_in [] = []
sent_in (sent number message by answer ∷ before) = (message.client.items, answer) ∷ sent_in before
sent_in (accepted number now datagram message ∷ before) = sent_in before
sent_in (asked number device id request datagram ∷ before) = sent_in before
sent_in (answered number device answer datagram ∷ before) = sent_in before
sent_in (unanswered number message by why ∷ before) = sent_in before
sent_in (given_up number device ∷ before) = sent_in before

-- what came is what was accepted and answered, what went out is what was asked and sent, by the gateway's agent at that
-- moment and with that salt, and all of it is lawful
pub record IsHistoryOf (gate : Gate) (events : List Event) (history : List Happening) : Type 0 where
  pub lawful : AreLawful gate.agent gate.devices.list.items history
  pub requests : taken_from events ≡ accepted_in history
  pub answers : answers_of events ≡ answered_in history
  pub seals : sealed_with events ≡ sealed_in history
  pub senders : All (IsSealedBy gate.agent) history
  pub devices : to_devices events ≡ asked_in history
  pub clients : to_clients events ≡ sent_in history

-- ---- the messages of one request

-- those that were accepted
abbrev pub accepted_for : ℕ → List Happening → List WaitingMessage
accepted_for n [] = []
accepted_for n (accepted number now datagram message ∷ before) =
    cond (nat_eq n number) (accepted_for n before ++ message ∷ []) (accepted_for n before)
accepted_for n (asked number device id request datagram ∷ before) = accepted_for n before
accepted_for n (answered number device answer datagram ∷ before) = accepted_for n before
accepted_for n (sent number message by answer ∷ before) = accepted_for n before
accepted_for n (unanswered number message by why ∷ before) = accepted_for n before
accepted_for n (given_up number device ∷ before) = accepted_for n before

-- those that were answered, or weren't and won't be
abbrev pub ended_for : ℕ → List Happening → List WaitingMessage
ended_for n [] = []
ended_for n (sent number message by answer ∷ before) =
    cond (nat_eq n number) (ended_for n before ++ message ∷ []) (ended_for n before)
ended_for n (unanswered number message by why ∷ before) =
    cond (nat_eq n number) (ended_for n before ++ message ∷ []) (ended_for n before)
ended_for n (accepted number now datagram message ∷ before) = ended_for n before
ended_for n (asked number device id request datagram ∷ before) = ended_for n before
ended_for n (answered number device answer datagram ∷ before) = ended_for n before
ended_for n (given_up number device ∷ before) = ended_for n before
