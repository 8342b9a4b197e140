-- Why a client's message isn't taken.
--
-- `CameBefore`: a Set's datagram came in the last 301 seconds. `IsDeviceFull`: as many requests wait for a device as
-- may.
-- `HasNoRoom`: as much waits, or is remembered, as may. `AsksIn`, `IsGivenIn`: in which context a message asks.
-- `IsCauseOf`, `HasCause`: why a message isn't taken.
use Rattle.std.specs.Prelude.{◌≡◌, ◌≤◌, ◌-◌, ◌/◌, ◌^◌, ⊤, ℕ, List, Contains, Ok, Option, Some, length}
use Rattle.sha2.specs.Sha256.{sha256}
use Rattle.snmp_agent.specs.Agent.{AgentState, taker_of}
use Rattle.snmp_incoming.specs.Outcome.{Outcome}
use Rattle.snmp_gate.specs.Bounds.{waiting_for}
use Rattle.snmp_gate.specs.Devices.{IsDeviceOf}
use Rattle.snmp_gate.specs.Groups.{Group, groups_of}
use Rattle.snmp_gate.specs.Messages.{question_in}
use Rattle.snmp_gate.specs.Question.{Question}
use Rattle.snmp_gate.specs.Sets.{HasDigest, lasting}
use Rattle.snmp_gate.specs.declared.gate.ClientTaken.{ClientTaken}
use Rattle.snmp_gate.specs.declared.gate.ClientTaken.TheVariants as client
use Rattle.snmp_gate.specs.declared.gate.Gate.{Gate}
use Rattle.snmp_gate.specs.declared.sets.RememberedSet.{RememberedSet}
use Rattle.snmp_gate.specs.declared.sets.TheConstants.{SETS_LIMIT}
use Rattle.snmp_gate.specs.declared.waiting_message.WaitingMessage.{WaitingMessage}
use Rattle.snmp_gate.specs.declared.work.Work.{Work}

-- a Set is remembered whose datagram has this digest: it came at most 301 seconds before
abbrev pub IsRememberedAt : ℕ → List ℕ → List RememberedSet → Type 0
IsRememberedAt now digest sets = (set : RememberedSet) × HasDigest digest (lasting now sets) set

-- this is the digest of a Set's datagram, and it is remembered
abbrev pub CameBefore : ℕ → Option (List ℕ) → Gate → Type 0
CameBefore now digest g = (d : List ℕ) × (digest ≡ Some d) × IsRememberedAt now d g.sets.sets.items

-- as many Sets are remembered as may be
abbrev pub AreManySets : ℕ → List RememberedSet → Type 0
AreManySets now sets = SETS_LIMIT ≤ length (lasting now sets)

-- as many requests wait for the device of this contextName as may
abbrev pub IsDeviceFull : Gate → List ℕ → Type 0
IsDeviceFull g context = (device : ℕ) × IsDeviceOf g.devices.list.items context device
    × (g.limits.waiting_per_device ≤ waiting_for device (groups_of g.requests.list.items))

-- there is no room for a message that asks in this context
pub data HasNoRoom (now : ℕ) (g : Gate) (asks : List ℕ → Type 0) : Type 0 where
  -- as many requests wait as may
  by_requests : g.requests.most ≤ length g.requests.list.items → HasNoRoom now g asks
  -- as many requests wait for its device as may
  by_device : (context : List ℕ) → asks context → IsDeviceFull g context → HasNoRoom now g asks
  -- all numbers of requests were given
  by_numbers : g.requests.next ≡ 2 ^ 64 - 1 → HasNoRoom now g asks
  -- as many messages wait for a request as may ask it
  by_messages : (request : Group WaitingMessage Work) → Contains (groups_of g.requests.list.items) request
      → g.requests.most_messages ≤ length request.messages → HasNoRoom now g asks
  -- as many Sets are remembered as may be
  by_sets : AreManySets now g.sets.sets.items → HasNoRoom now g asks

-- a message asks in this context
abbrev pub AsksIn : WaitingMessage → List ℕ → Type 0
AsksIn m context = (q : Question) × (question_in m ≡ Some q) × (q.context ≡ context)

-- the agent accepts the datagram now, in milliseconds, as a message that asks in this context
abbrev pub IsGivenIn : AgentState → ℕ → List ℕ → List ℕ → Type 0
IsGivenIn agent now datagram context = (m : WaitingMessage)
    × Outcome (taker_of agent) agent.users (now / 1000) datagram (Ok m.kept) × AsksIn m context

-- why a message isn't taken that asks in this context, and has this digest if it is a Set
abbrev pub IsCauseOf : Gate → ℕ → (List ℕ → Type 0) → Option (List ℕ) → ClientTaken → Type 0
IsCauseOf g now asks digest client.NoRoom = HasNoRoom now g asks
IsCauseOf g now asks digest client.SetOfBefore = CameBefore now digest g
IsCauseOf g now asks digest _ = ⊤

-- why the message of this datagram isn't taken: its Set came before, or there is no room for it
abbrev pub HasCause : Gate → ℕ → List ℕ → ClientTaken → Type 0
HasCause g now datagram taken = IsCauseOf g now (IsGivenIn g.agent now datagram) (Some (sha256 datagram)) taken
