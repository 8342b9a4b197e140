-- An agent with what it accepted last and what it wrote last, and what its calls leave.
--
-- `AgentHeld`: an agent with what was accepted last and the message that was written last.
--
-- `MakesAgent`: an agent of a configuration; `begins`: one that took nothing yet. `IsEngineAt`: an engine
-- ID that an engine may have (`IsOwnEngine`; RFC 3411, section 5) and boots that it can have.
-- `RefusesAgent`: why there is none, the first that applies. `Reconfigures`: it has the users and the tables of
-- another configuration, and its counters go on.
--
-- `TakesHeld`: what is accepted is kept; of a refusal the report is left. `TakesNoMemory`: the datagram is
-- refused, isn't opened, and no report on it is offered. `IsAsked`: what is kept is of the Confirmed Class.
-- `RespondsHeld`, `NotifiesHeld`: the message is left to be sent (`LeavesMessage`); `RefusesResponse`,
-- `RefusesNotice`: why none is. `GoesOutAs`: a text is what is said, and managers with that user accept it;
-- `IsResponseText`, `IsNoticeText`: it is the Response, or the notification. `Responds`, `NotifiesAt`: what is
-- answered to them, a refusal too; `trap`: a notification (RFC 3416, section 4.2.6).
--
-- `AllowsHeld`, `MaySee`: isAccessAllowed by numbers (`view_of`, `level_of`); `AreNoArcs`: not 1 to 128 of
-- them. `Counts`: a counter. `Clears`: all is given back, and what stays has no users and `no_rows`.
use Rattle.snmp_message.specs.Numbers.{in_table}
use Rattle.snmp_message.specs.declared.refusal.Refusal.{Refusal}
use Rattle.std.specs.Prelude.{◌≡◌, ◌<◌, ◌≤◌, ◌⊎◌, All, ℕ, pos, List, [], length, replicate, Option, Some, None}
use Rattle.std.specs.Prelude.{Result, Ok, Err, IfSome, IsSome, false, true}
use Rattle.snmp_ber.specs.declared.level.Level.{Level}
use Rattle.snmp_ber.specs.declared.number.TheConstants.{MAX_INTEGER32}
use Rattle.snmp_message.specs.Scoped.{Contexts, ScopedFront}
use Rattle.snmp_msg.specs.Pdu.{PduParts, PduText, pdu_with}
use Rattle.snmp_msg.specs.Variables.{Variable, AreBindings}
use Rattle.snmp_incoming.specs.Outcome.{Given, Outcome}
use Rattle.snmp_msg.specs.PduTypes.{is_confirmed, pdu_tag}
use Rattle.snmp_msg.specs.declared.pdu_type.PduType.TheVariants.{SNMPv2Trap}
use Rattle.usm_core.specs.Table.{refusal_answer}
use Rattle.snmp_agent.specs.Agent.{AgentState, AgentTakes, IsOpened, taker_of}
use Rattle.snmp_agent.specs.Report.{AgentReports, OffersOnAnswer}
use Rattle.snmp_outgoing.specs.Speaks.{Speech, spoken}
use Rattle.snmp_agent.specs.RefusalCounters.{counter_at}
use Rattle.snmp_agent.specs.Decides.{question, question_of}
use Rattle.snmp_agent.specs.Responses.{response, responding}
use Rattle.snmp_agent.specs.Sent.{Sends, CanSendAt, IsAcceptedByManagers, RefusesSenderAt}
use Rattle.snmp_incoming.specs.Outcome.{own_pair}
use Rattle.engine_clock.specs.Pairs.{BootsAndTime, pair_max}
use Rattle.usm_core.specs.Authentic.{HasEngineLength}
use Rattle.usm_users.specs.User.{User}
use Rattle.vacm_core.specs.Allowed.{Allowed}
use Rattle.vacm_core.specs.Tables.{Tables, HaveSameRows}
use Rattle.vacm_core.specs.declared.access.Access.{Access}
use Rattle.vacm_core.specs.declared.access.ViewType.{ViewType}
use Rattle.snmpsec_config.specs.Refusals.{Loads, RefusesText}
use Rattle.snmpsec_config.specs.declared.fault.ConfigFault.{ConfigFault}
use Rattle.snmp_message.specs.declared.refusal.Refusal.TheVariants.{OutOfMemory}
use Rattle.snmp_handles.specs.Numbers.{level_of, view_of}
use Rattle.snmp_handles.specs.declared.fault.CallFault.{CallFault}
use Rattle.snmp_handles.specs.declared.fault.CallFault.TheVariants.{Refused, BadArgument, NothingTaken, NotAsked}
use Rattle.snmp_handles.specs.declared.fault.CallFault.TheVariants.{BadBindings, BadConfiguration}

pub record AgentHeld : Type 0 where
  pub agent : AgentState
  -- what was accepted last, where the datagram that was taken last was accepted
  pub last : Option Given
  -- the message that was written last and is to be sent
  pub message : Option (List ℕ)

-- ---- making one

-- an agent that took nothing yet
abbrev pub begins : List ℕ → ℕ → ℕ → List User → Tables → AgentHeld
begins engine boots started users tables = record {
  agent = record {
    engine = engine;
    boots = boots;
    started = started;
    users = users;
    tables = tables;
    counters = replicate 6 0;
    counts = replicate 8 0;
  };
  last = None;
  message = None;
}

-- an identifier that an engine may have: 5 to 32 octets, not all of them 0 and not all of them 255
-- (SnmpEngineID, RFC 3411, section 5)
abbrev pub IsOwnEngine : List ℕ → Type 0
IsOwnEngine octets = HasEngineLength octets × (All (λ octet. octet ≡ 0) octets → ⊥)
    × (All (λ octet. octet ≡ 255) octets → ⊥)

-- an identifier that an engine may have, and boots that it can have
abbrev pub IsEngineAt : List ℕ → ℕ → Type 0
IsEngineAt engine boots = IsOwnEngine engine × (boots ≤ pair_max)

-- why none is made, the first that applies
abbrev pub RefusesAgent : List ℕ → List ℕ → ℕ → CallFault → Type 0
RefusesAgent config engine boots BadArgument = (IsOwnEngine engine → ⊥) ⊎ (pair_max < boots)
RefusesAgent config engine boots BadConfiguration = IsEngineAt engine boots
    × ((fault : ConfigFault) × RefusesText config fault)
RefusesAgent config engine boots (Refused fault) = IsEngineAt engine boots × (fault ≡ OutOfMemory)
RefusesAgent config engine boots _ = ⊥

-- an agent of the configuration, with this engine and these boots, which started at this moment
abbrev pub MakesAgent : List ℕ → List ℕ → ℕ → ℕ → Result AgentHeld CallFault → Type 0
MakesAgent config engine boots started (Ok made) =
    IsEngineAt engine boots
    × ((users : List User) × (tables : Tables) × Loads config users tables
    × (made ≡ begins engine boots started users tables))
MakesAgent config engine boots started (Err fault) = RefusesAgent config engine boots fault

-- Users and tables are those of the configuration, and all else is as it was: the engine, its boots, the counters, and
-- what is held. A refusal changes nothing.
abbrev pub Reconfigures : {V : Type 0} → AgentHeld → List ℕ → Result V CallFault → AgentHeld → Type 0
Reconfigures old config (Ok done) new =
    (users : List User) × (tables : Tables) × Loads config users tables
    × (new ≡ record old { agent = record old.agent { users = users; tables = tables } })
Reconfigures old config (Err BadConfiguration) new = ((fault : ConfigFault) × RefusesText config fault) × (new ≡ old)
Reconfigures old config (Err (Refused fault)) new = (fault ≡ OutOfMemory) × (new ≡ old)
Reconfigures old config (Err _) new = ⊥

-- no row in any table
abbrev pub no_rows : Tables
no_rows = record { contexts = []; groups = []; access = []; families = [] }

-- Nothing is held any more: it is as one that began with an engine ID of five zeros, no users and no rows. A
-- refusal changes nothing.
abbrev pub Clears : {V : Type 0} → AgentHeld → Result V CallFault → AgentHeld → Type 0
Clears old (Ok done) new = (tables : Tables) × HaveSameRows no_rows tables
    × (new ≡ begins (replicate 5 0) 0 0 [] tables)
Clears old (Err fault) new = (fault ≡ Refused OutOfMemory) × (new ≡ old)

-- ---- taking

-- The datagram is refused, isn't opened, and no report on it is offered, so that no memory is wanted to take it.
pub record TakesNoMemory (agent : AgentState) (now : ℕ) (w : List ℕ) : Type 0 where
  pub unopened : IsOpened (taker_of agent) agent.users now w → ⊥
  pub unreported : OffersOnAnswer (taker_of agent) agent.users now w → ⊥
  pub refused : (g : Given) → Outcome (taker_of agent) agent.users now w (Ok g) → ⊥

-- An accepted datagram is kept, and nothing is to be sent. A refused one leaves its report to be sent, where
-- there is one.
abbrev pub TakesHeld : {V : Type 0} → AgentHeld → ℕ → List ℕ → Result V CallFault → AgentHeld → Type 0
TakesHeld old now w (Ok done) new =
    (g : Given) × (new.last ≡ Some g) × (new.message ≡ None) × AgentTakes old.agent now w (Some (Ok g)) new.agent
TakesHeld old now w (Err (Refused fault)) new =
    (new.last ≡ None) × AgentTakes old.agent now w (refusal_answer fault) new.agent
    × AgentReports new.agent now w (in_table fault) new.message
TakesHeld old now w (Err _) new = ⊥

-- ---- deciding

-- the arcs are those of no identifier that is asked for
abbrev pub AreNoArcs : List ℕ → Type 0
AreNoArcs arcs = (length arcs < 1) ⊎ (128 < length arcs)

-- whether the sender of what is kept may see the variable
abbrev pub AllowsHeld : AgentHeld → ℕ → List ℕ → Result Access CallFault → Type 0
AllowsHeld held view arcs (Ok access) =
    (g : Given) × (asked : ViewType) × (held.last ≡ Some g) × (view_of view ≡ Some asked)
    × (AreNoArcs arcs → ⊥)
    × ((c : Contexts) → ScopedFront g.text c → Allowed held.agent.tables (question_of g c) asked arcs access)
AllowsHeld held view arcs (Err BadArgument) = (view_of view ≡ None) ⊎ AreNoArcs arcs
AllowsHeld held view arcs (Err NothingTaken) = (held.last ≡ None) × IsSome (view_of view) × (AreNoArcs arcs → ⊥)
AllowsHeld held view arcs (Err _) = ⊥

-- whether this user at this level may see the variable in this context
abbrev pub MaySee : AgentHeld → List ℕ → ℕ → List ℕ → ℕ → List ℕ → Result Access CallFault → Type 0
MaySee held user level context view arcs (Ok access) =
    (at : Level) × (asked : ViewType) × (level_of level ≡ Some at) × (view_of view ≡ Some asked)
    × (AreNoArcs arcs → ⊥) × Allowed held.agent.tables (question user at context) asked arcs access
MaySee held user level context view arcs (Err BadArgument) = (level_of level ≡ None)
    ⊎ ((view_of view ≡ None) ⊎ AreNoArcs arcs)
MaySee held user level context view arcs (Err _) = ⊥

-- ---- counters

abbrev pub Counts : AgentHeld → ℕ → Result ℕ CallFault → Type 0
Counts held n (Ok value) = (1 ≤ n) × (n ≤ 6) × (value ≡ counter_at held.agent.counters n)
Counts held n (Err BadArgument) = (n ≡ 0) ⊎ (6 < n)
Counts held n (Err _) = ⊥

-- ---- sending

-- The text is what the agent sends to say this under its boots and time. Each manager that has the sender's user
-- accepts it, exactly where the pair is in the window of what the manager then holds.
abbrev pub GoesOutAs : AgentState → ℕ → (BootsAndTime → Speech) → List ℕ → Type 0
GoesOutAs agent now says text = Sends agent now (λ own. spoken (says own)) (Ok text)
    × IsAcceptedByManagers agent.users (says (own_pair agent.boots agent.started now)) text

-- the text is the Response to what was given, with the bindings that these octets are
abbrev pub IsResponseText : AgentState → ℕ → Given → ℕ → ℕ → List ℕ → List ℕ → List ℕ → Type 0
IsResponseText agent now g status index list salt text =
    (vs : List Variable) × AreBindings vs list
    × ((c : Contexts) (p : PduParts) → ScopedFront g.text c → PduText c.pdu p
    → GoesOutAs agent now (λ own. response agent.engine own g c p (pos status) (pos index) vs salt) text)

-- The Response to what was given, with the bindings that these octets are, or its refusal.
abbrev pub Responds : AgentState → ℕ → Given → ℕ → ℕ → List ℕ → List ℕ → Result (List ℕ) Refusal → Type 0
Responds agent now g status index list salt answer =
    (vs : List Variable) × AreBindings vs list
    × ((c : Contexts) (p : PduParts) → ScopedFront g.text c → PduText c.pdu p
    → Sends agent now (λ own. responding agent.engine own g c p (pos status) (pos index) vs salt) answer)

-- what is kept, where it has a PDU of the Confirmed Class
abbrev pub IsAsked : AgentHeld → Given → Type 0
IsAsked held g = (held.last ≡ Some g) × (is_confirmed g.tag ≡ true)

-- Nothing can be sent for its user at its level; or it can, and the Response is refused, or finds no memory.
abbrev pub StopsResponse : AgentState → ℕ → Given → ℕ → ℕ → List ℕ → List ℕ → Refusal → Type 0
StopsResponse agent now g status index list salt fault =
    RefusesSenderAt agent now g.user g.level fault
    ⊎ (CanSendAt agent now g.user g.level × IfSome (refusal_answer fault) (Responds agent now g status index list salt))

-- the octets aren't bindings, of a Response that can be sent
abbrev pub HasNoBindings : AgentState → ℕ → Given → List ℕ → Type 0
HasNoBindings agent now g list = CanSendAt agent now g.user g.level × ((vs : List Variable) → AreBindings vs list → ⊥)

-- error-status and error-index are in their range
abbrev pub AreInRange : ℕ → ℕ → Type 0
AreInRange status index = (status ≤ MAX_INTEGER32) × (index ≤ MAX_INTEGER32)

-- Why what is kept isn't answered with the bindings that these octets are, the first that applies: the
-- numbers are out of range, nothing is kept, it isn't asked for an answer; then what stops the answer itself,
-- or that the octets aren't bindings.
abbrev pub RefusesAnswer : AgentHeld → ℕ → ℕ → ℕ → List ℕ → (Given → Refusal → Type 0) → CallFault → Type 0
RefusesAnswer held now status index list Stops (Refused fault) = AreInRange status index
    × ((g : Given) × IsAsked held g × Stops g fault)
RefusesAnswer held now status index list Stops BadArgument = (MAX_INTEGER32 < status) ⊎ (MAX_INTEGER32 < index)
RefusesAnswer held now status index list Stops NothingTaken = AreInRange status index × (held.last ≡ None)
RefusesAnswer held now status index list Stops NotAsked = AreInRange status index
    × ((g : Given) × (held.last ≡ Some g) × (is_confirmed g.tag ≡ false))
RefusesAnswer held now status index list Stops BadBindings = AreInRange status index
    × ((g : Given) × IsAsked held g × HasNoBindings held.agent now g list)
RefusesAnswer held now status index list Stops _ = ⊥

abbrev pub RefusesResponse : AgentHeld → ℕ → ℕ → ℕ → List ℕ → List ℕ → CallFault → Type 0
RefusesResponse held now status index list salt fault =
    RefusesAnswer held now status index list (λ g f. StopsResponse held.agent now g status index list salt f) fault

-- A message is to be sent, and nothing else changes.
abbrev pub LeavesMessage : AgentHeld → List ℕ → AgentHeld → Type 0
LeavesMessage old text new = new ≡ record old { message = Some text }

-- The Response to what is kept is to be sent. A refusal changes nothing.
abbrev pub RespondsHeld : {V : Type 0} → AgentHeld → ℕ → ℕ → ℕ → List ℕ → List ℕ → Result V CallFault
    → AgentHeld → Type 0
RespondsHeld old now status index list salt (Ok done) new = AreInRange status index
    × ((g : Given) × (text : List ℕ) × IsAsked old g × IsResponseText old.agent now g status index list salt text
    × LeavesMessage old text new)
RespondsHeld old now status index list salt (Err fault) new = RefusesResponse old now status index list salt fault
    × (new ≡ old)

-- whom a notification goes to, and what it says besides its bindings
pub record Notice : Type 0 where
  -- msgID
  pub id : ℕ
  pub user : List ℕ
  pub level : ℕ
  pub request_id : ℕ
  pub context_engine : List ℕ
  pub context_name : List ℕ

-- the SNMPv2-Trap (RFC 3416, section 4.2.6) with these bindings, from the engine with its boots and time
abbrev pub trap : List ℕ → BootsAndTime → Notice → Level → List Variable → List ℕ → Speech
trap engine own n level vs salt = record {
  level = level;
  id = n.id;
  reportable = false;
  engine = engine;
  pair = own;
  user = n.user;
  salt = salt;
  context_engine = n.context_engine;
  context_name = n.context_name;
  pdu = pdu_with (pdu_tag SNMPv2Trap) (pos n.request_id) (pos 0) (pos 0) vs;
}

-- the notification at this level
abbrev pub NotifiesAt : AgentState → ℕ → Notice → Level → List ℕ → List ℕ → Result (List ℕ) Refusal → Type 0
NotifiesAt agent now n level list salt answer =
    (vs : List Variable) × AreBindings vs list
    × Sends agent now (λ own. spoken (trap agent.engine own n level vs salt)) answer

-- the text is the notification at this level, with the bindings that these octets are
abbrev pub IsNoticeText : AgentState → ℕ → Notice → Level → List ℕ → List ℕ → List ℕ → Type 0
IsNoticeText agent now n level list salt text =
    (vs : List Variable) × AreBindings vs list
    × GoesOutAs agent now (λ own. trap agent.engine own n level vs salt) text

-- Nothing can be sent for the user at this level; or it can, and the notification is refused, or finds no memory.
abbrev pub StopsNotice : AgentState → ℕ → Notice → Level → List ℕ → List ℕ → Refusal → Type 0
StopsNotice agent now n level list salt fault =
    RefusesSenderAt agent now n.user level fault
    ⊎ (CanSendAt agent now n.user level × IfSome (refusal_answer fault) (NotifiesAt agent now n level list salt))

-- a number or the name is out of its range
abbrev pub IsNoticeOutOfRange : Notice → Type 0
IsNoticeOutOfRange n = (level_of n.level ≡ None)
    ⊎ ((MAX_INTEGER32 < n.id) ⊎ ((MAX_INTEGER32 < n.request_id) ⊎ (32 < length n.user)))

abbrev pub RefusesNotice : AgentHeld → ℕ → Notice → List ℕ → List ℕ → CallFault → Type 0
RefusesNotice held now n list salt (Refused fault) = (IsNoticeOutOfRange n → ⊥)
    × ((at : Level) × (level_of n.level ≡ Some at) × StopsNotice held.agent now n at list salt fault)
RefusesNotice held now n list salt BadArgument = IsNoticeOutOfRange n
RefusesNotice held now n list salt BadBindings = (IsNoticeOutOfRange n → ⊥)
    × ((at : Level) × (level_of n.level ≡ Some at) × CanSendAt held.agent now n.user at
    × ((vs : List Variable) → AreBindings vs list → ⊥))
RefusesNotice held now n list salt _ = ⊥

-- The notification is to be sent. A refusal changes nothing.
abbrev pub NotifiesHeld : {V : Type 0} → AgentHeld → ℕ → Notice → List ℕ → List ℕ → Result V CallFault
    → AgentHeld → Type 0
NotifiesHeld old now n list salt (Ok done) new = (IsNoticeOutOfRange n → ⊥)
    × ((at : Level) × (text : List ℕ) × (level_of n.level ≡ Some at) × IsNoticeText old.agent now n at list salt text
    × LeavesMessage old text new)
NotifiesHeld old now n list salt (Err fault) new = RefusesNotice old now n list salt fault × (new ≡ old)
