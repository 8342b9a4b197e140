-- What the calls of an agent leave that go with what it accepted, besides its answer: how long the answer may
-- be, whether anything answers it at all, the report where nothing does, and the counters (RFC 3412, sections
-- 4.2.2 and 7.1; RFC 3413, section 3.2; RFC 3416, section 4.2).
use Rattle.snmp_message.specs.declared.refusal.Refusal.{Refusal}
use Rattle.std.specs.Prelude.{◌≡◌, ◌≤◌, ◌⊎◌, ℕ, pos, List, [], length, take, Option, Some, None, option_map}
use Rattle.std.specs.Prelude.{Result, Ok, Err, IfSome}
use Rattle.std.specs.Global.{Vec}
use Rattle.snmp_message.specs.Scoped.{Contexts, ScopedFront}
use Rattle.snmp_msg.specs.Pdu.{PduParts, PduText}
use Rattle.snmp_msg.specs.Variables.{Variable, AreBindings}
use Rattle.snmp_incoming.specs.Outcome.{Given, own_pair}
use Rattle.snmp_message.specs.declared.refusal.Refusal.TheVariants.{OutOfMemory, TooLarge}
use Rattle.usm_core.specs.Table.{refusal_answer}
use Rattle.snmp_outgoing.specs.UpTo.{UpTo}
use Rattle.snmp_outgoing.specs.Fronts.{FrontText, IsBeyond, IsLongestFront, room}
use Rattle.snmp_outgoing.specs.declared.front.Fronted.{Fronted}
use Rattle.snmp_agent.specs.Agent.{AgentState}
use Rattle.snmp_agent.specs.Responses.{response, responding}
use Rattle.snmp_agent.specs.Sent.{Sends, SendsFront, CanSendAt, IsAcceptedByManagers, RefusesSenderAt}
use Rattle.snmp_agent.specs.Dispatch.{HandledBy, Refuses, RefusalCanBeSent}
use Rattle.snmp_agent.specs.declared.unhandled.Unhandled.{Unhandled}
use Rattle.snmp_handles.specs.Agents.{AgentHeld, IsAsked, GoesOutAs, AreInRange, RefusesAnswer, LeavesMessage}
use Rattle.snmp_handles.specs.Between.{Answering}
use Rattle.snmp_handles.specs.declared.fault.CallFault.{CallFault}
use Rattle.snmp_handles.specs.declared.fault.CallFault.TheVariants.{Refused, NothingTaken}

-- ---- answers within a limit

-- The Response to what was given, with the bindings that these octets are, where it has at most so many
-- octets; or its refusal.
abbrev pub RespondsWithin : AgentState → ℕ → Given → ℕ → ℕ → List ℕ → List ℕ → ℕ → Result (List ℕ) Refusal → Type 0
RespondsWithin agent now g status index list salt limit answer =
    (vs : List Variable) × AreBindings vs list
    × ((c : Contexts) (p : PduParts) → ScopedFront g.text c → PduText c.pdu p
    → UpTo limit (Sends agent now (λ own. responding agent.engine own g c p (pos status) (pos index) vs salt)) answer)

-- the text is that Response, and has at most so many octets
abbrev pub IsResponseWithin : AgentState → ℕ → Given → ℕ → ℕ → List ℕ → List ℕ → ℕ → List ℕ → Type 0
IsResponseWithin agent now g status index list salt limit text =
    (vs : List Variable) × AreBindings vs list
    × ((c : Contexts) (p : PduParts) → ScopedFront g.text c → PduText c.pdu p
    → GoesOutAs agent now (λ own. response agent.engine own g c p (pos status) (pos index) vs salt) text
    × (length text ≤ limit))

-- Nothing can be sent for its user at its level; or it can, and the Response is refused or too long, or finds
-- no memory.
abbrev pub StopsWithin : AgentState → ℕ → Given → ℕ → ℕ → List ℕ → List ℕ → ℕ → Refusal → Type 0
StopsWithin agent now g status index list salt limit fault =
    RefusesSenderAt agent now g.user g.level fault
    ⊎ (CanSendAt agent now g.user g.level
    × IfSome (refusal_answer fault) (RespondsWithin agent now g status index list salt limit))

abbrev pub RefusesWithin : AgentHeld → ℕ → ℕ → ℕ → List ℕ → List ℕ → ℕ → CallFault → Type 0
RefusesWithin held now status index list salt limit fault =
    RefusesAnswer held now status index list (λ g f. StopsWithin held.agent now g status index list salt limit f) fault

-- The Response to what is kept, of at most so many octets, is to be sent. A refusal changes nothing.
abbrev pub RespondsHeldWithin : {V : Type 0} → AgentHeld → ℕ → ℕ → ℕ → List ℕ → List ℕ → ℕ → Result V CallFault
    → AgentHeld → Type 0
RespondsHeldWithin old now status index list salt limit (Ok done) new = AreInRange status index
    × ((g : Given) × (text : List ℕ) × IsAsked old g
    × IsResponseWithin old.agent now g status index list salt limit text × LeavesMessage old text new)
RespondsHeldWithin old now status index list salt limit
    (Err fault) new = RefusesWithin old now status index list salt limit fault × (new ≡ old)

-- The Response to what was given, with the longest front of the bindings that these octets are that has room
-- within so many octets, and how many that front has; or its refusal.
abbrev pub RespondsFront : AgentState → ℕ → Given → ℕ → ℕ → List ℕ → List ℕ → ℕ → Result FrontText Refusal → Type 0
RespondsFront agent now g status index list salt limit answer =
    (vs : List Variable) × AreBindings vs list
    × ((c : Contexts) (p : PduParts) → ScopedFront g.text c → PduText c.pdu p
    → SendsFront agent now limit
    (λ own xs. responding agent.engine own g c p (pos status) (pos index) xs salt) vs answer)

-- The text is that Response with so many of the bindings. Each manager that has its user accepts it, exactly where the
-- pair is in the window of what the manager then holds.
abbrev pub IsFrontResponse : AgentState → ℕ → Given → ℕ → ℕ → List ℕ → List ℕ → ℕ → FrontText → Type 0
IsFrontResponse agent now g status index list salt limit f =
    (vs : List Variable) × AreBindings vs list
    × ((c : Contexts) (p : PduParts) → ScopedFront g.text c → PduText c.pdu p
    → SendsFront agent now limit
    (λ own xs. responding agent.engine own g c p (pos status) (pos index) xs salt) vs (Ok f)
    × IsAcceptedByManagers agent.users
    (response agent.engine (own_pair agent.boots agent.started now) g c p (pos status) (pos index) (take f.count vs)
    salt) f.text)

-- Nothing can be sent for its user at its level; or it can, and the Response is refused, has no room even
-- without bindings, or finds no memory.
abbrev pub StopsFront : AgentState → ℕ → Given → ℕ → ℕ → List ℕ → List ℕ → ℕ → Refusal → Type 0
StopsFront agent now g status index list salt limit fault =
    RefusesSenderAt agent now g.user g.level fault
    ⊎ (CanSendAt agent now g.user g.level
    × IfSome (refusal_answer fault) (RespondsFront agent now g status index list salt limit))

-- The Response to what is kept, with the longest front that has room, is to be sent, and its count is written. A
-- refusal changes nothing.
abbrev pub RespondsHeldFront : AgentHeld → ℕ → ℕ → ℕ → List ℕ → List ℕ → ℕ → Result ℕ CallFault → AgentHeld → Type 0
RespondsHeldFront old now status index list salt limit (Ok count) new = AreInRange status index
    × ((g : Given) × (text : List ℕ) × IsAsked old g
    × IsFrontResponse old.agent now g status index list salt limit (record { text = text; count = count })
    × LeavesMessage old text new)
RespondsHeldFront old now status index list salt limit (Err fault) new =
    RefusesAnswer old now status index list (λ g f. StopsFront old.agent now g status index list salt limit f) fault
    × (new ≡ old)

-- between the functions: the same of what is kept, before it is left to be sent
abbrev pub AnswersWithin : AgentState → ℕ → Given → ℕ → ℕ → List ℕ → List ℕ → ℕ → Result (Vec ℕ) CallFault → Type 0
AnswersWithin agent now g status index list salt limit answer =
    Answering agent now g list (λ text. IsResponseWithin agent now g status index list salt limit text.items)
    (λ f. StopsWithin agent now g status index list salt limit f) answer

abbrev pub AnswersFront : AgentState → ℕ → Given → ℕ → ℕ → List ℕ → List ℕ → ℕ → Result Fronted CallFault → Type 0
AnswersFront agent now g status index list salt limit answer =
    Answering agent now g list
    (λ told. IsFrontResponse agent now g status index list salt limit
    (record { text = told.text.items; count = told.count }))
    (λ f. StopsFront agent now g status index list salt limit f) answer

-- ---- how long an answer is

-- So many of the bindings, from the first on, have room in the Response to what was given within so many octets, and
-- no more.
abbrev pub HaveRoom : AgentState → ℕ → Given → ℕ → ℕ → List ℕ → List ℕ → ℕ → ℕ → Type 0
HaveRoom agent now g status index list salt limit count =
    (vs : List Variable) × AreBindings vs list
    × ((c : Contexts) (p : PduParts) → ScopedFront g.text c → PduText c.pdu p
    → IsLongestFront agent.users (room limit)
    (λ xs. responding agent.engine (own_pair agent.boots agent.started now) g c p (pos status) (pos index) xs salt) vs
    count)

-- the Response has no room even without bindings
abbrev pub HasNoRoom : AgentState → ℕ → Given → ℕ → ℕ → List ℕ → ℕ → Type 0
HasNoRoom agent now g status index salt limit =
    (c : Contexts) (p : PduParts) → ScopedFront g.text c → PduText c.pdu p
    → IsBeyond agent.users (room limit)
    (responding agent.engine (own_pair agent.boots agent.started now) g c p (pos status) (pos index) [] salt)

-- Nothing can be sent for its user at its level; or it can, and there is no room, or no memory.
abbrev pub StopsCounting : AgentState → ℕ → Given → ℕ → ℕ → List ℕ → ℕ → Refusal → Type 0
StopsCounting agent now g status index salt limit fault =
    RefusesSenderAt agent now g.user g.level fault
    ⊎ (CanSendAt agent now g.user g.level
    × ((fault ≡ OutOfMemory) ⊎ ((fault ≡ TooLarge) × HasNoRoom agent now g status index salt limit)))

-- So many of the bindings have room in the Response to what is kept; or why it isn't answered.
abbrev pub FitsHeld : AgentHeld → ℕ → ℕ → ℕ → List ℕ → List ℕ → ℕ → Result ℕ CallFault → Type 0
FitsHeld held now status index list salt limit (Ok count) = AreInRange status index
    × ((g : Given) × IsAsked held g × HaveRoom held.agent now g status index list salt limit count)
FitsHeld held now status index list salt limit (Err fault) =
    RefusesAnswer held now status index list (λ g f. StopsCounting held.agent now g status index salt limit f) fault

-- between the functions: the same of what is kept
abbrev pub CountsRoom : AgentState → ℕ → Given → ℕ → ℕ → List ℕ → List ℕ → ℕ → Result ℕ CallFault → Type 0
CountsRoom agent now g status index list salt limit answer =
    Answering agent now g list (HaveRoom agent now g status index list salt limit)
    (λ f. StopsCounting agent now g status index salt limit f) answer

-- ---- who answers

-- why nothing answers what was given, or None where it is to be answered
abbrev pub IsHandled : AgentState → Given → Option Unhandled → Type 0
IsHandled agent g why = (c : Contexts) (p : PduParts) → ScopedFront g.text c → PduText c.pdu p
    → HandledBy agent.engine agent.tables c p why

abbrev pub TellsUnhandled : AgentHeld → Result (Option Unhandled) CallFault → Type 0
TellsUnhandled held (Ok why) = (g : Given) × (held.last ≡ Some g) × IsHandled held.agent g why
TellsUnhandled held (Err NothingTaken) = held.last ≡ None
TellsUnhandled held (Err _) = ⊥

-- ---- reports

-- what becomes of a message that is refused so: the report on it, where there is one, or its refusal
abbrev pub Reports : AgentState → ℕ → Given → Unhandled → List ℕ → Result (Option (List ℕ)) Refusal → AgentState
    → Type 0
Reports old now g why salt answer new =
    (c : Contexts) (p : PduParts) → ScopedFront g.text c → PduText c.pdu p → Refuses old now g p why salt answer new

-- the refusal as a report's; None if memory ran out
abbrev pub report_refusal : Refusal → Option (Result (Option (List ℕ)) Refusal)
report_refusal fault = refusal_answer fault

-- There is a report, and none of the refusals before its text applies.
abbrev pub CanReport : AgentState → ℕ → Given → Unhandled → List ℕ → Type 0
CanReport agent now g why salt = (c : Contexts) (p : PduParts) → ScopedFront g.text c → PduText c.pdu p
    → RefusalCanBeSent agent now g p why salt

-- The report is refused, or finds no memory where there is one that can be sent. Nothing changes.
abbrev pub StopsWith : AgentState → ℕ → Given → Unhandled → List ℕ → Refusal → Type 0
StopsWith agent now g why salt fault =
    IfSome (report_refusal fault) (λ answer. Reports agent now g why salt answer agent)
    × (fault ≡ OutOfMemory → CanReport agent now g why salt)

abbrev pub StopsReport : AgentHeld → ℕ → Unhandled → List ℕ → CallFault → Type 0
StopsReport held now why salt (Refused fault) =
    (g : Given) × (held.last ≡ Some g) × StopsWith held.agent now g why salt fault
StopsReport held now why salt NothingTaken = held.last ≡ None
StopsReport held now why salt _ = ⊥

-- What is kept is counted, and its report is to be sent; nothing is, where there is none. An error changes nothing.
abbrev pub ReportsHeld : {V : Type 0} → AgentHeld → ℕ → Unhandled → List ℕ → Result V CallFault → AgentHeld → Type 0
ReportsHeld old now why salt (Ok done) new =
    (g : Given) × (report : Option (List ℕ)) × (agent : AgentState) × (old.last ≡ Some g)
    × Reports old.agent now g why salt (Ok report) agent
    × (new ≡ record old { agent = agent; message = report })
ReportsHeld old now why salt (Err fault) new = StopsReport old now why salt fault × (new ≡ old)

-- between the functions: the same of what is kept, before it is left to be sent
abbrev pub AnswersReport : AgentState → ℕ → Given → Unhandled → List ℕ → Result (Option (Vec ℕ)) CallFault
    → AgentState → Type 0
AnswersReport old now g why salt (Ok report) new = Reports old now g why salt
    (Ok (option_map (λ v. v.items) report)) new
AnswersReport old now g why salt (Err (Refused fault)) new = StopsWith old now g why salt fault
AnswersReport old now g why salt (Err _) new = ⊥
