-- What happened at a gateway, and what the laws of complete mediation say of it.
--
-- A history is a list of what happened, the latest first. `waiting_in`: the messages that wait for their answers.
-- `told_in`: what devices told for a request. `open_ask`: what a device was asked for it, and didn't answer.
-- `IsMediated`: the laws, of what happens after a history. `IsAccepted`: a message was accepted. `MayAskFor`: the law
-- inwards, what a device may be asked, which `IsAskWithin` has with its limits. `IsAnswerOf`: whose answer it is.
-- `IsAnswerTo` has the law outwards.
-- `IsToldAgain`: what the Response to a Set says was told of its datagram before. `IsCauseFor`: why a request has no
-- Response. Moments are milliseconds.
use Rattle.std.specs.Prelude.{◌≡◌, ◌≢◌, ◌⊎◌, ◌+◌, ◌/◌, ◌≤◌, ℕ, pos, cond, nat_eq, All, Contains, Option, Some, None}
use Rattle.std.specs.Prelude.{IfSome, length, map, Ok}
use Rattle.std.specs.Prelude.{List, [], ◌∷◌, ◌++◌, drop}
use Rattle.std.specs.Global.{Vec}
use Rattle.std.specs.List.{HoldsAt}
use Rattle.sha2.specs.Sha256.{sha256}
use Rattle.snmp_message.specs.declared.refusal.Refusal.{Refusal}
use Rattle.snmp_msg.specs.Pdu.{PduParts}
use Rattle.snmp_msg.specs.PduTypes.{pdu_tag}
use Rattle.snmp_msg.specs.Variables.{Variable, variables_of}
use Rattle.snmp_msg.specs.declared.pdu_type.PduType.TheVariants.{GetBulkRequest, GetNextRequest, SetRequest}
use Rattle.vacm_core.specs.Tables.{Tables}
use Rattle.snmp_incoming.specs.Outcome.{Outcome}
use Rattle.snmp_agent.specs.Agent.{AgentState, taker_of}
use Rattle.snmp_agent.specs.declared.unhandled.Unhandled.{Unhandled}
use Rattle.snmp_agent.specs.declared.unhandled.Unhandled.TheVariants.{UnavailableContexts}
use Rattle.snmp_walk.specs.Column.{MayAsk}
use Rattle.snmp_walk.specs.declared.operation.ReadOperation.{ReadOperation}
use Rattle.snmp_walk.specs.declared.operation.ReadOperation.TheVariants.{GetNext}
use Rattle.gateway_laws.specs.Requests.{RequestPdu}
use Rattle.snmp_gate.specs.Causes.{IsUnhandledBy}
use Rattle.snmp_gate.specs.DeviceMessages.{IsDeviceAnswer, IsRequestFor}
use Rattle.snmp_gate.specs.Devices.{IsDeviceOf}
use Rattle.snmp_gate.specs.Messages.{question_in, seen_in, set_in}
use Rattle.snmp_gate.specs.Question.{Question}
use Rattle.snmp_gate.specs.ReadAsks.{plain_request, read_type}
use Rattle.snmp_gate.specs.Replies.{Answering, ClientAnswer, IsAnswerTo}
use Rattle.snmp_gate.specs.Said.{Exchange, Said, said_nothing}
use Rattle.snmp_gate.specs.Work.{end_of, says_no_such_name}
use Rattle.snmp_gate.specs.declared.devices.Device.{Device}
use Rattle.snmp_gate.specs.declared.set_answer.ResponseStatus.{ResponseStatus}
use Rattle.snmp_gate.specs.declared.sets.TheConstants.{REMEMBERED}
use Rattle.snmp_gate.specs.declared.waiting_message.WaitingMessage.{WaitingMessage}

pub data Happening : Type 0 where
  -- a message that asks the request of this number is accepted at this moment, in milliseconds
  accepted : (number now : ℕ) (datagram : List ℕ) (message : WaitingMessage) → Happening
  -- a device is asked this, for the request of this number
  asked : (number device id : ℕ) (request : RequestPdu) (datagram : List ℕ) → Happening
  -- the answer of a device is taken, for the request of this number
  answered : (number device : ℕ) (answer : PduParts) (datagram : List ℕ) → Happening
  -- a client is sent the answer to a message that asks the request of this number
  sent : (number : ℕ) (message : WaitingMessage) (by : Answering) (answer : ClientAnswer) → Happening
  -- such a message isn't answered; the reason is a refusal, if nothing can be sealed for its user
  unanswered : (number : ℕ) (message : WaitingMessage) (by : Answering) (why : Option Refusal) → Happening
  -- the device didn't answer in time: the request of this number is given up
  given_up : (number device : ℕ) → Happening

-- the request of which it happens
abbrev pub number_of : Happening → ℕ
number_of (accepted number now datagram message) = number
number_of (asked number device id request datagram) = number
number_of (answered number device answer datagram) = number
number_of (sent number message by answer) = number
number_of (unanswered number message by why) = number
number_of (given_up number device) = number

-- the messages that ask the request of this number and wait for their answers, in the order in which they came
abbrev pub waiting_in : ℕ → List Happening → List WaitingMessage
waiting_in n [] = []
waiting_in n (accepted number now datagram message ∷ before) =
    cond (nat_eq n number) (waiting_in n before ++ message ∷ []) (waiting_in n before)
waiting_in n (asked number device id request datagram ∷ before) = waiting_in n before
waiting_in n (answered number device answer datagram ∷ before) = waiting_in n before
waiting_in n (sent number message by answer ∷ before) =
    cond (nat_eq n number) (drop 1 (waiting_in n before)) (waiting_in n before)
waiting_in n (unanswered number message by why ∷ before) =
    cond (nat_eq n number) (drop 1 (waiting_in n before)) (waiting_in n before)
waiting_in n (given_up number device ∷ before) = waiting_in n before

-- what a device is asked
pub record OpenAsk : Type 0 where
  pub device : ℕ
  pub id : ℕ
  pub request : RequestPdu

-- what it is asked last for the request of this number, unless it answered or was given up
abbrev pub open_ask : ℕ → List Happening → Option OpenAsk
open_ask n [] = None
open_ask n (accepted number now datagram message ∷ before) = open_ask n before
open_ask n (asked number device id request datagram ∷ before) =
    cond (nat_eq n number) (Some (record { device = device; id = id; request = request })) (open_ask n before)
open_ask n (answered number device answer datagram ∷ before) = cond (nat_eq n number) None (open_ask n before)
open_ask n (sent number message by answer ∷ before) = open_ask n before
open_ask n (unanswered number message by why ∷ before) = open_ask n before
open_ask n (given_up number device ∷ before) = cond (nat_eq n number) None (open_ask n before)

-- what an answer says of each name that was asked, if it says noSuchName: that there is none after it
abbrev pub ends_in : Option OpenAsk → PduParts → List Variable
ends_in None p = []
ends_in (Some ask) p = cond (says_no_such_name p.second) (map end_of ask.request.variables) []

-- what an answer to this says: its bindings, and those ends
abbrev pub said_by : Option OpenAsk → PduParts → List Variable
said_by ask p = variables_of p.list ++ ends_in ask p

-- the answer with what was asked
abbrev pub exchange_in : Option OpenAsk → PduParts → List Exchange
exchange_in None p = []
exchange_in (Some ask) p = record { asked = ask.request; answer = p } ∷ []

-- what was said before, and the answer
abbrev pub more_said : Option OpenAsk → PduParts → Said → Said
more_said ask p said = record {
  variables = said_by ask p ++ said.variables;
  exchanges = exchange_in ask p ++ said.exchanges;
  asked = said.asked;
}

-- what was said before, and that the device is asked this
abbrev pub asked_more : RequestPdu → Said → Said
asked_more request said =
    record { variables = said.variables; exchanges = said.exchanges; asked = request ∷ said.asked }

-- what devices told for the request of this number, and were asked
abbrev pub told_in : ℕ → List Happening → Said
told_in n [] = said_nothing
told_in n (accepted number now datagram message ∷ before) = told_in n before
told_in n (asked number device id request datagram ∷ before) =
    cond (nat_eq n number) (asked_more request (told_in n before)) (told_in n before)
told_in n (answered number device answer datagram ∷ before) =
    cond (nat_eq n number) (more_said (open_ask n before) answer (told_in n before)) (told_in n before)
told_in n (sent number message by answer ∷ before) = told_in n before
told_in n (unanswered number message by why ∷ before) = told_in n before
told_in n (given_up number device ∷ before) = told_in n before

-- ---- the laws

-- the message was accepted, and asks the request of this number
pub record IsAccepted (before : List Happening) (number : ℕ) (message : WaitingMessage) : Type 0 where
  pub now : ℕ
  pub datagram : List ℕ
  pub there : Contains before (accepted number now datagram message)

-- an accepted message asks this for the request of this number
pub record AskedBy (before : List Happening) (number : ℕ) (q : Question) : Type 0 where
  pub message : WaitingMessage
  pub is_accepted : IsAccepted before number message
  pub asks : question_in message ≡ Some q

-- one of the names of a request for values, or of its answers so far, leads to the name that is asked: the message may
-- see it, or in a walk it passes over nothing that the message may see
pub record MayAskName (q : Question) (tables : Tables) (told : Said) (operation : ReadOperation)
    (v : Variable) : Type 0 where
  pub request : Variable
  pub is_request : Contains (variables_of q.list) request
  pub may : MayAsk (seen_in tables q) told.variables operation request.name v.name

-- the law inwards: for values a device is asked with its community, and for a Set with the community for it
pub data MayAskFor (tables : Tables) (d : Device) (q : Question) (told : Said) (id : ℕ)
    (request : RequestPdu) (datagram : List ℕ) : Type 0 where
  reads : (operation : ReadOperation) → q.tag ≡ pdu_tag (read_type operation)
      → All (MayAskName q tables told operation) request.variables
      → request ≡ plain_request (read_type operation) request.variables
      → IsRequestFor datagram d.community.items id request
      → MayAskFor tables d q told id request datagram
  bulk : (request.type ≡ GetNextRequest) ⊎ (request.type ≡ GetBulkRequest)
      → q.tag ≡ pdu_tag GetBulkRequest → All (MayAskName q tables told GetNext) request.variables
      → IsRequestFor datagram d.community.items id request
      → MayAskFor tables d q told id request datagram
  sets : (community : Vec ℕ) → d.write_community ≡ Some community → q.tag ≡ pdu_tag SetRequest
      → request ≡ plain_request SetRequest (variables_of q.list)
      → All (λ (v : Variable). set_in tables q v.name) request.variables
      → IsRequestFor datagram community.items id request
      → MayAskFor tables d q told id request datagram

-- and the datagram has at most as many octets as the device takes
abbrev pub IsAskFor : Tables → Device → Question → Said → ℕ → RequestPdu → List ℕ → Type 0
IsAskFor tables d q told id request datagram =
    MayAskFor tables d q told id request datagram × (length datagram ≤ d.max_size)

-- and for no more repetitions than it is configured for (RFC 3416, section 4.2.3)
abbrev pub IsAskWithin : Tables → Device → Question → Said → ℕ → RequestPdu → List ℕ → Type 0
IsAskWithin tables d q told id request datagram =
    IsAskFor tables d q told id request datagram × (request.max_repetitions ≤ d.repetitions)

-- the community by which a device is asked by a request of this type
abbrev pub IsCommunityFor : Device → ℕ → List ℕ → Type 0
IsCommunityFor d tag community = ((tag ≢ pdu_tag SetRequest) × (community ≡ d.community.items))
    ⊎ ((tag ≡ pdu_tag SetRequest)
    × ((write : Vec ℕ) × (d.write_community ≡ Some write) × (community ≡ write.items)))

-- the answer is that of this device to what it was asked last for the request of this number, which it didn't answer,
-- and has the community by which it was asked
pub record IsAnswerOf (devices : List Device) (before : List Happening) (number device : ℕ) (answer : PduParts)
    (datagram : List ℕ) : Type 0 where
  pub ask : OpenAsk
  pub is_open : open_ask number before ≡ Some ask
  pub device_is : ask.device ≡ device
  pub id_is : answer.id ≡ pos ask.id
  pub community : List ℕ
  pub is_answer : IsDeviceAnswer datagram community answer
  pub question : Question
  pub is_asked : AskedBy before number question
  pub is_community : HoldsAt (λ (d : Device). IsCommunityFor d question.tag community) devices device

-- a datagram of this digest was accepted at this moment, for the request of this number
pub record CameFor (before : List Happening) (digest : List ℕ) (number now : ℕ) : Type 0 where
  pub datagram : List ℕ
  pub message : WaitingMessage
  pub there : Contains before (accepted number now datagram message)
  pub digest_is : sha256 datagram ≡ digest

-- its client was sent the Response to a datagram of this digest, and this was said of it
pub record WasTold (before : List Happening) (digest : List ℕ) (says : ResponseStatus) : Type 0 where
  pub number : ℕ
  pub now : ℕ
  pub datagram : List ℕ
  pub message : WaitingMessage
  pub came : Contains before (accepted number now datagram message)
  pub digest_is : sha256 datagram ≡ digest
  pub by : Answering
  pub answer : ClientAnswer
  pub there : Contains before (sent number message by answer)
  pub says_is : answer.says ≡ Some says

-- the message's datagram came for another request in the 301 seconds before, and this was told of it
pub record IsToldAgain (before : List Happening) (number : ℕ) (message : WaitingMessage) (says : ResponseStatus)
    : Type 0 where
  pub now : ℕ
  pub datagram : List ℕ
  pub came : Contains before (accepted number now datagram message)
  pub other : ℕ
  pub another : other ≢ number
  pub first : ℕ
  pub came_first : CameFor before (sha256 datagram) other first
  pub soon : now ≤ first + REMEMBERED
  pub told : WasTold before (sha256 datagram) says

-- the request of this number was given up: its device didn't answer in time
abbrev pub WasGivenUp : List Happening → ℕ → Type 0
WasGivenUp before n = (device : ℕ) × Contains before (given_up n device)

-- why a request has no Response: no application answers what it asks; or its context is unavailable, since it was given
-- up, and asks no Set
abbrev pub IsCauseFor : List ℕ → Tables → List Device → List Happening → ℕ → Question → Unhandled → Type 0
IsCauseFor engine tables devices before n q why = IsUnhandledBy engine tables devices q why
    ⊎ ((why ≡ UnavailableContexts) × WasGivenUp before n × (q.tag ≢ pdu_tag SetRequest))

-- the law of complete mediation: the agent, the devices, what happened before, and what happens
abbrev pub IsMediated : AgentState → List Device → List Happening → Happening → Type 0
IsMediated agent devices before (accepted number now datagram message) =
    Outcome (taker_of agent) agent.users (now / 1000) datagram (Ok message.kept)
IsMediated agent devices before (asked number device id request datagram) = (q : Question) × AskedBy before number q
    × IsDeviceOf devices q.context device
    × HoldsAt (λ (d : Device). IsAskWithin agent.tables d q (told_in number before) id request datagram) devices device
IsMediated agent devices before (answered number device answer datagram) =
    IsAnswerOf devices before number device answer datagram
IsMediated agent devices before (sent number message by answer) = IsAccepted before number message
    × ((again : Option ResponseStatus) × IfSome again (IsToldAgain before number message)
    × ((q : Question) → question_in message ≡ Some q
    → IsAnswerTo by agent.tables q (told_in number before) again
    (IsCauseFor agent.engine agent.tables devices before number q) message.kept answer))
IsMediated agent devices before (unanswered number message by why) = IsAccepted before number message
IsMediated agent devices before (given_up number device) = (q : Question) × AskedBy before number q
    × IsDeviceOf devices q.context device
