-- How a request begins at a gateway.
--
-- `BeginsWell`: what is known of a request at first. `MaySetAll`: each variable of a SetRequest may be set.
-- `EndsAt`: why it ends without a Response. `MayBeJoined`: a message may join a request. `IsKnownEnd`: what is known of
-- a Set that came before. `TakenIn`: what a gateway is behind a message.
use Rattle.std.specs.Prelude.{◌≡◌, ◌≤◌, ⊤, ℕ, List, ◌∷◌, All, IfSome, None, Option, Some, length}
use Rattle.std.specs.List.{HoldsAt}
use Rattle.sha2.specs.Sha256.{sha256}
use Rattle.snmp_msg.specs.PduTypes.{pdu_tag}
use Rattle.snmp_msg.specs.Variables.{Variable, variables_of}
use Rattle.snmp_msg.specs.declared.pdu_type.PduType.TheVariants.{SetRequest}
use Rattle.vacm_core.specs.Tables.{Tables}
use Rattle.snmp_agent.specs.declared.unhandled.Unhandled.{Unhandled}
use Rattle.snmp_gate.specs.Causes.{EndsFor, IsUnhandledBy}
use Rattle.snmp_gate.specs.Devices.{IsDeviceOf}
use Rattle.snmp_gate.specs.History.{Happening, accepted}
use Rattle.snmp_gate.specs.Lawful.{IsInTurn}
use Rattle.snmp_gate.specs.Messages.{question_in, set_in}
use Rattle.snmp_gate.specs.Question.{Question}
use Rattle.snmp_gate.specs.Said.{IsUnasked, Said}
use Rattle.snmp_gate.specs.Sets.{HasDigest, lasting}
use Rattle.snmp_gate.specs.Waiting.{GateStands}
use Rattle.snmp_gate.specs.Work.{EndingStands, IsToldFirst, TaskStands, most_repetitions}
use Rattle.snmp_gate.specs.declared.devices.Device.{Device}
use Rattle.snmp_gate.specs.declared.gate.ClientTaken.{ClientTaken}
use Rattle.snmp_gate.specs.declared.gate.ClientTaken.TheVariants as client
use Rattle.snmp_gate.specs.declared.first_work.SetBegins.{SetBegins}
use Rattle.snmp_gate.specs.declared.first_work.SetBegins.TheVariants as begins
use Rattle.snmp_gate.specs.declared.gate.Gate.{Gate}
use Rattle.snmp_gate.specs.declared.onward.Onward.{Onward}
use Rattle.snmp_gate.specs.declared.onward.Onward.TheVariants as onward
use Rattle.snmp_gate.specs.declared.sets.RememberedSet.{RememberedSet}
use Rattle.snmp_gate.specs.declared.waiting_message.WaitingMessage.{WaitingMessage}
use Rattle.snmp_gate.specs.declared.work.RequestEnd.{RequestEnd}
use Rattle.snmp_gate.specs.declared.work.RequestEnd.TheVariants as ending
use Rattle.snmp_gate.specs.declared.work.Work.{Work}
use Rattle.snmp_gate.specs.declared.work.Work.TheVariants.{Open, Ends}

-- whatever was told, where its device wasn't asked: the device of its context is to be asked, for no more repetitions
-- than it is configured for, or it ends
abbrev pub BeginsWell : Tables → List Device → Question → Work → Type 0
BeginsWell tables devices q (Open o) = ((told : Said) → IsUnasked told → TaskStands tables q told o.task.task)
    × IsDeviceOf devices q.context o.device × (o.asked ≡ None)
    × HoldsAt (λ (d : Device). most_repetitions o.task.task ≤ d.repetitions) devices o.device
BeginsWell tables devices q (Ends e) = (told : Said) → IsUnasked told → EndingStands tables q told e

abbrev pub MaySetAll : Tables → Question → Type 0
MaySetAll tables q = All (λ (v : Variable). set_in tables q v.name) (variables_of q.list)

abbrev pub IsSet : Question → Type 0
IsSet q = q.tag ≡ pdu_tag SetRequest

-- the message's size and digest are those of its datagram, and each Set has a digest
pub record IsOfDatagram (m : WaitingMessage) (datagram : List ℕ) : Type 0 where
  pub size : m.size ≡ length datagram
  pub set : (q : Question) → question_in m ≡ Some q → IsSet q → m.digest ≡ Some (sha256 datagram)
  pub own : (digest : List ℕ) → m.digest ≡ Some digest → digest ≡ sha256 datagram

-- the message may wait for the answer to this: it isn't what was told before, of another datagram
abbrev pub MayBeJoined : Work → Type 0
MayBeJoined (Ends e) = IsToldFirst e
MayBeJoined (Open o) = ⊤

-- if a request ends by what was told before, a Set of this digest is remembered, and that was told of it
abbrev pub IsKnownEnd : ℕ → Option (List ℕ) → List RememberedSet → RequestEnd → Type 0
IsKnownEnd now digest sets (ending.Repeated says) = (d : List ℕ) × (digest ≡ Some d)
    × ((set : RememberedSet) × HasDigest d (lasting now sets) set × (set.outcome ≡ Some says))
IsKnownEnd now digest sets _ = ⊤

abbrev pub IsKnownOnward : ℕ → Option (List ℕ) → List RememberedSet → Onward → Type 0
IsKnownOnward now digest sets (onward.Asks named) = ⊤
IsKnownOnward now digest sets (onward.Ends e) = IsKnownEnd now digest sets e

abbrev pub IsKnownBegin : ℕ → Option (List ℕ) → List RememberedSet → SetBegins → Type 0
IsKnownBegin now digest sets (begins.Onward o) = IsKnownOnward now digest sets o
IsKnownBegin now digest sets begins.Unknown = ⊤

abbrev pub IsKnownWork : ℕ → Option (List ℕ) → List RememberedSet → Work → Type 0
IsKnownWork now digest sets (Open o) = ⊤
IsKnownWork now digest sets (Ends e) = IsKnownEnd now digest sets e

-- no application answers what the message asks, if there is a cause
abbrev pub AreUnhandledBy : Gate → WaitingMessage → Option Unhandled → Type 0
AreUnhandledBy g m unhandled = (q : Question) → question_in m ≡ Some q
    → IfSome unhandled (IsUnhandledBy g.agent.engine g.agent.tables g.devices.list.items q)

-- at this gateway it ends without a Response only if no application answers what is asked
abbrev pub EndsAt : Gate → Question → RequestEnd → Type 0
EndsAt g q e = EndsFor g.agent.engine g.agent.tables g.devices.list.items q e

-- the request goes on, or ends by what wasn't told before
abbrev pub IsFirstOnward : Onward → Type 0
IsFirstOnward (onward.Asks named) = ⊤
IsFirstOnward (onward.Ends e) = IsToldFirst e

-- the message asks the request of this number
abbrev pub TakenFor : List Happening → ℕ → List ℕ → WaitingMessage → ℕ → Gate → Type 0
TakenFor before now datagram m n new = IsInTurn before (accepted n now datagram m)
    × GateStands now (accepted n now datagram m ∷ before) new

abbrev pub TakenIn : List Happening → ℕ → List ℕ → WaitingMessage → ClientTaken → Gate → Type 0
TakenIn before now datagram m (client.Begins n) new = TakenFor before now datagram m n new
TakenIn before now datagram m (client.Joins n) new = TakenFor before now datagram m n new
TakenIn before now datagram m _ new = GateStands now before new

-- the datagram isn't refused
abbrev pub IsNoRefusal : ClientTaken → Type 0
IsNoRefusal (client.Refused why) = ⊥
IsNoRefusal _ = ⊤

-- the message isn't taken: there is no room for it, or it is of a Set that came before
abbrev pub IsUntaken : ClientTaken → Type 0
IsUntaken client.NoRoom = ⊤
IsUntaken client.SetOfBefore = ⊤
IsUntaken _ = ⊥
