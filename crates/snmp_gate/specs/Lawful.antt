-- What happens lawfully at a gateway.
--
-- `IsInTurn`: the message that is answered is the one that waits longest. `HasOwnId`: a device isn't asked twice at
-- once with one request-id. `IsOnce`: a Set goes out once. `IsLawful`: all laws of what happens after a history.
-- `AreLawful`: each part of a history is lawful after the parts before it.
use Rattle.std.specs.Prelude.{◌≡◌, ◌≢◌, ◌⊎◌, ⊤, ◌+◌, ◌<◌, ℕ, List, [], ◌∷◌, All, Contains, Some}
use Rattle.snmp_msg.specs.PduTypes.{pdu_tag}
use Rattle.snmp_msg.specs.declared.pdu_type.PduType.TheVariants.{SetRequest}
use Rattle.snmp_agent.specs.Agent.{AgentState}
use Rattle.gateway_laws.specs.Requests.{RequestPdu}
use Rattle.snmp_gate.specs.History.{AskedBy, Happening, IsMediated, OpenAsk, accepted, asked}
use Rattle.snmp_gate.specs.History.{open_ask, sent, unanswered, waiting_in}
use Rattle.snmp_gate.specs.Messages.{question_in}
use Rattle.snmp_gate.specs.Question.{Question}
use Rattle.snmp_gate.specs.declared.devices.Device.{Device}
use Rattle.snmp_gate.specs.declared.sets.TheConstants.{REMEMBERED}
use Rattle.snmp_gate.specs.declared.waiting_message.WaitingMessage.{WaitingMessage}

-- ---- each message is answered once at most

-- of the messages that ask the request of this number and wait, this one came first
abbrev pub IsNext : List Happening → ℕ → WaitingMessage → Type 0
IsNext before number message = (others : List WaitingMessage) × (waiting_in number before ≡ message ∷ others)

-- a message joins only those that ask the same; and the one that is answered, or isn't, waits no longer
abbrev pub IsInTurn : List Happening → Happening → Type 0
IsInTurn before (accepted number now datagram message) =
    All (λ (m : WaitingMessage). question_in m ≡ question_in message) (waiting_in number before)
IsInTurn before (sent number message by answer) = IsNext before number message
IsInTurn before (unanswered number message by why) = IsNext before number message
IsInTurn before _ = ⊤

-- ---- request-ids

-- no other ask with this request-id waits at the device
abbrev pub IsOwnId : List Happening → ℕ → ℕ → ℕ → Type 0
IsOwnId before number device id = (other : ℕ) (ask : OpenAsk) → other ≢ number → open_ask other before ≡ Some ask
    → ask.device ≡ device → ask.id ≢ id

abbrev pub HasOwnId : List Happening → Happening → Type 0
HasOwnId before (asked number device id request datagram) = IsOwnId before number device id
HasOwnId before _ = ⊤

-- ---- Sets

-- a device was asked for the request of this number
pub record WasAsked (before : List Happening) (number : ℕ) : Type 0 where
  pub device : ℕ
  pub id : ℕ
  pub request : RequestPdu
  pub datagram : List ℕ
  pub there : Contains before (asked number device id request datagram)

-- an accepted message asks a Set by the request of this number
pub record IsSetRequest (before : List Happening) (number : ℕ) : Type 0 where
  pub question : Question
  pub is_asked : AskedBy before number question
  pub tag : question.tag ≡ pdu_tag SetRequest

-- two moments with more than 301 seconds between them
abbrev pub AreApart : ℕ → ℕ → Type 0
AreApart a b = (a + REMEMBERED < b) ⊎ (b + REMEMBERED < a)

-- no datagram was accepted for both requests within 301 seconds
abbrev pub ShareNoDatagram : List Happening → ℕ → ℕ → Type 0
ShareNoDatagram before a b = (datagram : List ℕ) (at other : ℕ) (m n : WaitingMessage)
    → Contains before (accepted a at datagram m) → Contains before (accepted b other datagram n) → AreApart at other

-- a Set is asked once, and none is asked whose datagram came for another one that was asked in the last 301 seconds
abbrev pub IsOnce : List Happening → Happening → Type 0
IsOnce before (asked number device id request datagram) = IsSetRequest before number
    → (¬ WasAsked before number)
    × ((other : ℕ) → WasAsked before other → IsSetRequest before other → ShareNoDatagram before number other)
IsOnce before _ = ⊤

-- ---- all laws

pub record IsLawful (agent : AgentState) (devices : List Device) (before : List Happening) (happening : Happening)
    : Type 0 where
  pub mediated : IsMediated agent devices before happening
  pub in_turn : IsInTurn before happening
  pub own_id : HasOwnId before happening
  pub once : IsOnce before happening

abbrev pub AreLawful : AgentState → List Device → List Happening → Type 0
AreLawful agent devices [] = ⊤
AreLawful agent devices (now ∷ before) = IsLawful agent devices before now × AreLawful agent devices before
