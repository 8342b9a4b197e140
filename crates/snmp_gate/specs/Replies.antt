-- What a client is sent (RFC 3413, section 3.2; RFC 3416, section 4.2).
--
-- `IsSent`: the Response to an accepted message with an error-status, an error-index and bindings. `ClientAnswer`:
-- what a client is sent, and which error-status and error-index are said of it. `IsResponse`, `IsReport`: what is said
-- of it is true. `IsSentOr`: it is that Response, or tooBig without bindings. `MayTell`: the law outwards, which
-- Response a message may be sent. `IsReplyTo`: what becomes of a message.
use Rattle.std.specs.Prelude.{◌≡◌, ◌≢◌, ◌⊎◌, ⊤, ℕ, ℤ, pos, List, [], All, Contains, Option, Some, None, Ok, map, take}
use Rattle.std.specs.Global.{Vec}
use Rattle.std.specs.List.{AllZip}
use Rattle.snmp_message.specs.Scoped.{Contexts, ScopedFront}
use Rattle.snmp_msg.specs.Pdu.{PduParts, PduText}
use Rattle.snmp_msg.specs.PduTypes.{pdu_tag}
use Rattle.snmp_msg.specs.Variables.{Variable, variables_of}
use Rattle.snmp_msg.specs.declared.pdu_type.PduType.TheVariants.{GetBulkRequest, SetRequest}
use Rattle.vacm_core.specs.Tables.{Tables}
use Rattle.snmp_incoming.specs.Outcome.{Given}
use Rattle.snmp_agent.specs.Agent.{AgentState}
use Rattle.snmp_agent.specs.Dispatch.{Refuses}
use Rattle.snmp_agent.specs.Responses.{responding}
use Rattle.snmp_agent.specs.Sent.{Sends}
use Rattle.snmp_agent.specs.declared.response.Response.{Response}
use Rattle.snmp_agent.specs.declared.unhandled.Unhandled.{Unhandled}
use Rattle.snmp_responder.specs.Instrumentation.{Known}
use Rattle.snmp_walk.specs.BulkColumn.{Ascends, IsGiven, last_name}
use Rattle.snmp_walk.specs.BulkDialogue.{IsCountOf}
use Rattle.snmp_walk.specs.Column.{MayShow}
use Rattle.snmp_walk.specs.Dialogue.{requests_of}
use Rattle.snmp_walk.specs.declared.operation.ReadOperation.{ReadOperation}
use Rattle.snmp_walk.specs.declared.operation.ReadOperation.TheVariants.{GetNext}
use Rattle.gateway_laws.specs.Bulk.{IsFrontOfBulk}
use Rattle.gateway_laws.specs.Device.{AreAnswered, IsDevice}
use Rattle.snmp_gate.specs.Messages.{seen_in}
use Rattle.snmp_gate.specs.Question.{Question}
use Rattle.snmp_gate.specs.ReadAsks.{read_type}
use Rattle.snmp_gate.specs.ReadErrors.{IsReadError}
use Rattle.snmp_gate.specs.Said.{AreTrue, IsSetStatus, Said}
use Rattle.snmp_gate.specs.declared.reply.Reply.{Reply}
use Rattle.snmp_gate.specs.declared.reply.Reply.TheVariants as reply
use Rattle.snmp_gate.specs.declared.reply.Sealing.{Sealing}
use Rattle.snmp_gate.specs.declared.set_answer.ResponseStatus.{ResponseStatus}
use Rattle.snmp_gate.specs.declared.set_answer.TheConstants.{NO_ERROR, TOO_BIG}

-- what is reported of a request: error-status, error-index and bindings
pub record Told : Type 0 where
  pub status : ℤ
  pub index : ℤ
  pub variables : List Variable

-- tooBig, without bindings
abbrev pub too_big : Told
too_big = record { status = TOO_BIG; index = pos 0; variables = [] }

-- who answers, and when: the agent, the moment in seconds, and the salt
pub record Answering : Type 0 where
  pub agent : AgentState
  pub now : ℕ
  pub salt : List ℕ

-- the datagram is the Response to the message, and tells this
abbrev pub IsSent : Answering → Given → Told → List ℕ → Type 0
IsSent a g told datagram = (c : Contexts) (p : PduParts) → ScopedFront g.text c → PduText c.pdu p
    → Sends a.agent a.now (λ own. responding a.agent.engine own g c p told.status told.index told.variables a.salt)
    (Ok datagram)

-- the datagram is the report on the message for this cause, with its counter
abbrev pub IsReported : Answering → Given → Unhandled → List ℕ → Type 0
IsReported a g why datagram = (c : Contexts) (p : PduParts) → ScopedFront g.text c → PduText c.pdu p
    → (after : AgentState) × Refuses a.agent a.now g p why a.salt (Ok (Some datagram)) after

-- what a client is sent; and what is said of it: the error-status and the error-index of a Response, or nothing
pub record ClientAnswer : Type 0 where
  pub says : Option ResponseStatus
  pub datagram : List ℕ

abbrev pub status_in : Told → ResponseStatus
status_in told = record { status = told.status; index = told.index }

-- it is the Response to the message that tells this, and so is said of it
abbrev pub IsResponse : Answering → Given → Told → ClientAnswer → Type 0
IsResponse a g told answer = IsSent a g told answer.datagram × (answer.says ≡ Some (status_in told))

-- it is the report on the message for this cause, of which nothing is said
abbrev pub IsReport : Answering → Given → Unhandled → ClientAnswer → Type 0
IsReport a g why answer = IsReported a g why answer.datagram × (answer.says ≡ None)

abbrev pub answer_with : Option ResponseStatus → Vec ℕ → ClientAnswer
answer_with says datagram = record { says = says; datagram = datagram.items }

-- ---- the law outwards

-- a binding of the Response to a GetBulkRequest: for one of the request's names, behind variables that were shown
-- before it, each of which is seen and was told, it is what a GetNextRequest for the last of them may show
pub record MayTellBulk (Seen : List ℕ → Type 0) (said vs : List Variable) (v : Variable) : Type 0 where
  pub request : Variable
  pub is_request : Contains vs request
  pub shown : List Variable
  pub ascends : Ascends request.name shown
  pub given : All (IsGiven Seen said) shown
  pub shows : MayShow Seen said GetNext (last_name request.name shown) v

-- without an error
pub data MayTellValues (tables : Tables) (q : Question) (said : Said) (vs : List Variable) : Type 0 where
  -- to a GetRequest or a GetNextRequest: for each of its names what it may show; and where each answer is that of a
  -- device with some variables, what this device has that is restricted to the view
  columns : (operation : ReadOperation) → q.tag ≡ pdu_tag (read_type operation)
      → AllZip (λ (asked v : Variable). MayShow (seen_in tables q) said.variables operation asked.name v)
      (variables_of q.list) vs
      → ((device : Known) → IsDevice device → AreTrue device said
      → AreAnswered device (seen_in tables q) (requests_of operation (variables_of q.list)) vs)
      → MayTellValues tables q said vs
  -- to a GetBulkRequest: what one of its columns may show; and there the front of what this device has that is
  -- restricted to the view
  front : q.tag ≡ pdu_tag GetBulkRequest
      → All (MayTellBulk (seen_in tables q) said.variables (variables_of q.list)) vs
      → (non_repeaters max_repetitions : ℕ) → IsCountOf q.second non_repeaters → IsCountOf q.third max_repetitions
      → ((device : Known) → IsDevice device → AreTrue device said
      → IsFrontOfBulk device (seen_in tables q) (map (λ (v : Variable). v.name) (variables_of q.list)) non_repeaters
      max_repetitions vs)
      → MayTellValues tables q said vs
  -- to a SetRequest: its own
  set : q.tag ≡ pdu_tag SetRequest → vs ≡ variables_of q.list → MayTellValues tables q said vs

-- of a Set what its device said, or what it said before; of another request an error only by its cause; and with an
-- error the request's own bindings, or none with tooBig
abbrev pub MayTell : Tables → Question → Said → Option ResponseStatus → Told → Type 0
MayTell tables q said again told = ((q.tag ≡ pdu_tag SetRequest → IsSetStatus q said again (status_in told))
    × (q.tag ≢ pdu_tag SetRequest → told.status ≢ NO_ERROR → IsReadError tables q said (status_in told)))
    × (((told.status ≡ NO_ERROR) × MayTellValues tables q said told.variables)
    ⊎ (((told.status ≢ NO_ERROR) × (told.variables ≡ variables_of q.list))
    ⊎ ((told.status ≡ TOO_BIG) × (told.variables ≡ []))))

-- it is a Response that may be sent, or the report for a cause of these; of a Set the Response may say this again
abbrev pub IsAnswerTo : Answering → Tables → Question → Said → Option ResponseStatus → (Unhandled → Type 0)
    → Given → ClientAnswer → Type 0
IsAnswerTo a tables q said again Cause g answer =
    ((told : Told) × IsResponse a g told answer × MayTell tables q said again told)
    ⊎ ((why : Unhandled) × Cause why × IsReport a g why answer)

-- of a request's own bindings: none with tooBig
abbrev pub IsOwnList : Question → ℤ → List Variable → Type 0
IsOwnList q status vs = ((status ≡ TOO_BIG) × (vs ≡ [])) ⊎ ((status ≢ TOO_BIG) × (vs ≡ variables_of q.list))

abbrev pub answering : AgentState → Sealing → Answering
answering agent s = record { agent = agent; now = s.seconds; salt = s.salt }

abbrev pub told_with : ResponseStatus → List Variable → Told
told_with says vs = record { status = says.status; index = says.index; variables = vs }

-- what a Response says so besides its bindings
abbrev pub response_with : ResponseStatus → Sealing → Response
response_with says s = record { status = says.status; index = says.index; salt = s.salt; limit = s.limit }

abbrev pub without_error : List Variable → Told
without_error vs = record { status = NO_ERROR; index = pos 0; variables = vs }

abbrev pub IsTooBigOr : Answering → Given → Reply → Type 0
IsTooBigOr a g (reply.Responds says datagram) = IsResponse a g too_big (answer_with (Some says) datagram)
IsTooBigOr a g (reply.Reports datagram) = ⊥
IsTooBigOr a g _ = ⊤

-- what is sent is this, or tooBig
abbrev pub IsSentOr : Answering → Given → Told → Reply → Type 0
IsSentOr a g told (reply.Responds says datagram) =
    IsResponse a g told (answer_with (Some says) datagram) ⊎ IsResponse a g too_big (answer_with (Some says) datagram)
IsSentOr a g told (reply.Reports datagram) = ⊥
IsSentOr a g told _ = ⊤

-- the same of the longest front that has room
abbrev pub IsFrontSentOr : Answering → Given → List Variable → Reply → Type 0
IsFrontSentOr a g vs (reply.Responds says datagram) =
    ((n : ℕ) × IsResponse a g (without_error (take n vs)) (answer_with (Some says) datagram))
    ⊎ IsResponse a g too_big (answer_with (Some says) datagram)
IsFrontSentOr a g vs (reply.Reports datagram) = ⊥
IsFrontSentOr a g vs _ = ⊤

abbrev pub IsReportedOr : Answering → Given → Unhandled → Reply → Type 0
IsReportedOr a g why (reply.Responds says datagram) = ⊥
IsReportedOr a g why (reply.Reports datagram) = IsReport a g why (answer_with None datagram)
IsReportedOr a g why _ = ⊤

-- what becomes of the message
abbrev pub IsReplyTo : Answering → Tables → Question → Said → Option ResponseStatus → (Unhandled → Type 0)
    → Given → Reply → Type 0
IsReplyTo a tables q said again Cause g (reply.Responds says datagram) =
    IsAnswerTo a tables q said again Cause g (answer_with (Some says) datagram)
IsReplyTo a tables q said again Cause g (reply.Reports datagram) =
    IsAnswerTo a tables q said again Cause g (answer_with None datagram)
IsReplyTo a tables q said again Cause g _ = ⊤

-- it has no report
abbrev pub NoCause : Unhandled → Type 0
NoCause why = ⊥

-- which error-status and error-index it says, if it is a Response
abbrev pub says_of : Reply → Option ResponseStatus
says_of (reply.Responds says datagram) = Some says
says_of _ = None

-- the agent has the same engine, users and tables
pub record SameAgent (old new : AgentState) : Type 0 where
  pub engine : new.engine ≡ old.engine
  pub boots : new.boots ≡ old.boots
  pub started : new.started ≡ old.started
  pub users : new.users ≡ old.users
  pub tables : new.tables ≡ old.tables
