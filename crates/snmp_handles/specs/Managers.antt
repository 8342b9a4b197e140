-- A manager with what it accepted last, what it wrote last and the request that it waits for, and what its calls leave.
--
-- `ManagerHeld`: a manager with what was accepted last, the message that was written last and what is
-- remembered of the last request. `MakesManager`, `RefusesManager`, `ClearsManager`, `ManagerTakes`,
-- `TellsAnswer`, `RequestsHeld`, `RefusesRequest`, `DiscoversHeld`, `AbsorbsHeld`, `SavesHeld`,
-- `TellsPair`: its calls. `said`, `asked`: the request; `IsRequestText`: a text is it, and agents with its user
-- accept it. `Waits`: it is to be sent, and its answer is waited for.
use Rattle.snmp_message.specs.declared.refusal.Refusal.{Refusal}
use Rattle.std.specs.FinMap as map
use Rattle.std.specs.Prelude.{◌≡◌, ◌<◌, ◌≤◌, ◌⊎◌, ℕ, pos, List, [], length, Option, Some, None, Result, Ok, Err, IfSome}
use Rattle.snmp_ber.specs.declared.level.Level.{Level}
use Rattle.snmp_ber.specs.declared.level.Level.TheVariants.{NoAuthNoPriv}
use Rattle.snmp_ber.specs.declared.number.TheConstants.{MAX_INTEGER32}
use Rattle.snmp_message.specs.Scoped.{Contexts, ScopedFront}
use Rattle.snmp_msg.specs.Pdu.{PduParts, PduText, IsSpelled, pdu_with}
use Rattle.snmp_msg.specs.PduTypes.{IsPduTag, is_confirmed}
use Rattle.snmp_msg.specs.Variables.{Variable, AreBindings}
use Rattle.engine_clock.specs.Pairs.{BootsAndTime, IsPair}
use Rattle.engine_clock.specs.Marks.{Marks, SeenPair, mark_at, pair_at, IsMarkJoinOf}
use Rattle.engine_clock.specs.Saved.{AreMarks, Saves, listing}
use Rattle.usm_core.specs.Authentic.{HasEngineLength}
use Rattle.usm_users.specs.User.{User}
use Rattle.usm_core.specs.Sealed.{Sending, Seals}
use Rattle.snmp_incoming.specs.Outcome.{Given}
use Rattle.snmp_message.specs.declared.refusal.Refusal.TheVariants.{OutOfMemory}
use Rattle.snmp_outgoing.specs.Sends.{CanSend, RefusesSender}
use Rattle.snmp_outgoing.specs.Speaks.{Speech, spoken}
use Rattle.usm_core.specs.Table.{refusal_answer}
use Rattle.snmp_outgoing.specs.Requests.{written_pair, discovering}
use Rattle.snmp_manager.specs.Views.{Held, held_by}
use Rattle.snmp_manager.specs.Takes as manager
use Rattle.snmp_manager.specs.Pendings.{Remembers}
use Rattle.snmp_manager.specs.Sent.{IsAcceptedByAgents}
use Rattle.snmp_manager.specs.Replies.{IsAnswer}
use Rattle.snmp_manager.specs.declared.pending.Pending.{Pending}
use Rattle.snmp_manager.specs.declared.pending.Answer.{Answer}
use Rattle.snmp_requests.specs.Outstanding.{Outstanding, none_outstanding}
use Rattle.snmpsec_config.specs.Refusals.{Loads, RefusesText}
use Rattle.snmpsec_config.specs.declared.fault.ConfigFault.{ConfigFault}
use Rattle.vacm_core.specs.Tables.{Tables}
use Rattle.snmp_handles.specs.Numbers.{level_of}
use Rattle.snmp_handles.specs.declared.fault.CallFault.{CallFault}
use Rattle.snmp_handles.specs.declared.fault.CallFault.TheVariants.{Refused, BadArgument, NothingTaken, BadBindings}
use Rattle.snmp_handles.specs.declared.fault.CallFault.TheVariants.{BadConfiguration, BadClocks}

pub record ManagerHeld : Type 0 where
  pub manager : Held
  -- what was accepted last, where the datagram that was taken last was accepted
  pub last : Option Given
  -- the message that was written last and is to be sent
  pub message : Option (List ℕ)
  -- what is remembered of the request that was written last
  pub pending : Option Pending
  -- the requests that were asked, many at once, and wait for their answers
  pub requests : Outstanding

-- ---- making one

-- why none is made, the first that applies
abbrev pub RefusesManager : List ℕ → List ℕ → ℕ → CallFault → Type 0
RefusesManager config text now BadConfiguration = ((clocks : Marks) × Saves now text clocks)
    × ((fault : ConfigFault) × RefusesText config fault)
RefusesManager config text now BadClocks = (clocks : Marks) → Saves now text clocks → ⊥
RefusesManager config text now (Refused fault) = fault ≡ OutOfMemory
RefusesManager config text now _ = ⊥

-- a manager with the configuration's users that begins with the clocks of the text
abbrev pub MakesManager : List ℕ → List ℕ → ℕ → Result ManagerHeld CallFault → Type 0
MakesManager config text now (Ok made) =
    (users : List User) × (tables : Tables) × (clocks : Marks) × Loads config users tables × Saves now text clocks
    × (made ≡ record {
      manager = record { users = users; clocks = clocks };
      last = None;
      message = None;
      pending = None;
      requests = none_outstanding;
    })
MakesManager config text now (Err fault) = RefusesManager config text now fault

-- Nothing is held any more. A refusal changes nothing.
abbrev pub ClearsManager : {V : Type 0} → ManagerHeld → Result V CallFault → ManagerHeld → Type 0
ClearsManager old (Ok done) new = new
    ≡ record {
      manager = held_by [] map.empty;
      last = None;
      message = None;
      pending = None;
      requests = none_outstanding;
    }
ClearsManager old (Err fault) new = (fault ≡ Refused OutOfMemory) × (new ≡ old)

-- ---- taking

-- An accepted datagram is kept. The request that is waited for stays. A refusal that comes before the pair is learned
-- leaves the marks. Where memory runs out, the manager is as it was.
abbrev pub ManagerTakes : {V : Type 0} → ManagerHeld → ℕ → List ℕ → Result V CallFault → ManagerHeld → Type 0
ManagerTakes old now w (Ok done) new =
    (g : Given) × (new.last ≡ Some g) × (new.message ≡ None) × (new.pending ≡ old.pending)
    × (new.requests ≡ old.requests) × manager.Takes old.manager now w (Some (Ok g)) new.manager
ManagerTakes old now w (Err (Refused fault)) new =
    (new.last ≡ None) × (new.message ≡ None) × (new.pending ≡ old.pending) × (new.requests ≡ old.requests)
    × manager.Takes old.manager now w (refusal_answer fault) new.manager
    × ((manager.IsOnceLearned fault → ⊥) → new.manager.clocks ≡ old.manager.clocks)
ManagerTakes old now w (Err _) new = ⊥

-- ---- the request that is waited for

abbrev pub RefusesAnswer : ManagerHeld → CallFault → Type 0
RefusesAnswer held NothingTaken = (held.last ≡ None) ⊎ (held.pending ≡ None)
RefusesAnswer held _ = ⊥

-- what the message that is kept is to the request
abbrev pub TellsAnswer : ManagerHeld → Result Answer CallFault → Type 0
TellsAnswer held (Ok answer) =
    (g : Given) × (a : Pending) × (held.last ≡ Some g) × (held.pending ≡ Some a)
    × ((c : Contexts) (p : PduParts) → ScopedFront g.text c → PduText c.pdu p → IsAnswer a g c p answer)
TellsAnswer held (Err fault) = RefusesAnswer held fault

-- ---- asking

-- what a request asks, and of whom
pub record Asking : Type 0 where
  -- msgID
  pub id : ℕ
  pub engine : List ℕ
  pub user : List ℕ
  pub level : ℕ
  pub context_engine : List ℕ
  pub context_name : List ℕ
  pub tag : ℕ
  pub request_id : ℕ
  pub second : ℕ
  pub third : ℕ

-- what the request says with these bindings, to the engine, of which this mark is held (RFC 3414, section 3.1)
abbrev pub said : Option SeenPair → ℕ → Asking → Level → List Variable → List ℕ → Speech
said held now ask level vs salt = record {
  level = level;
  id = ask.id;
  reportable = is_confirmed ask.tag;
  engine = ask.engine;
  pair = written_pair level held now;
  user = ask.user;
  salt = salt;
  context_engine = ask.context_engine;
  context_name = ask.context_name;
  pdu = pdu_with ask.tag (pos ask.request_id) (pos ask.second) (pos ask.third) vs;
}

-- the message that is sent with it
abbrev pub asked : Option SeenPair → ℕ → Asking → Level → List Variable → List ℕ → Sending
asked held now ask level vs salt = spoken (said held now ask level vs salt)

-- the request with the bindings that these octets are, or its refusal
abbrev pub AsksAt : Held → ℕ → Asking → Level → List ℕ → List ℕ → Result (List ℕ) Refusal → Type 0
AsksAt held now ask level list salt answer =
    (vs : List Variable) × AreBindings vs list
    × Seals held.users (asked (mark_at held.clocks ask.engine) now ask level vs salt) answer

-- The text is sent to say this, with the shortest spelling of its PDU, by a manager with these users that holds this
-- mark of the engine. Each agent of the engine that has its user accepts it, exactly where the pair is in the agent's
-- window.
pub record IsSentAs (users : List User) (held : Option SeenPair) (s : Speech) (text : List ℕ) : Type 0 where
  pub sealed : Seals users (spoken s) (Ok text)
  pub accepted : IsAcceptedByAgents users s text
  pub pair : (mark : SeenPair) → held ≡ Some mark → IsPair mark.pair
  pub spelled : IsSpelled s.pdu

-- the text is the request with the bindings that these octets are
abbrev pub IsRequestText : Held → ℕ → Asking → Level → List ℕ → List ℕ → List ℕ → Type 0
IsRequestText held now ask level list salt text =
    (vs : List Variable) × AreBindings vs list
    × IsSentAs held.users (mark_at held.clocks ask.engine) (said (mark_at held.clocks ask.engine) now ask level vs salt)
    text

-- a number or a length is out of its range
abbrev pub IsOutOfRange : Asking → Type 0
IsOutOfRange ask =
    (level_of ask.level ≡ None) ⊎ ((HasEngineLength ask.engine → ⊥) ⊎ ((IsPduTag ask.tag → ⊥) ⊎ ((32 < length ask.user)
    ⊎ ((MAX_INTEGER32 < ask.id)
    ⊎ ((MAX_INTEGER32 < ask.request_id) ⊎ ((MAX_INTEGER32 < ask.second) ⊎ (MAX_INTEGER32 < ask.third)))))))

-- Nothing can be sent for the user at this level; or it can, and the request is refused, or finds no memory.
abbrev pub StopsRequest : Held → ℕ → Asking → Level → List ℕ → List ℕ → Refusal → Type 0
StopsRequest held now ask level list salt fault =
    RefusesSender held.users ask.user level fault
    ⊎ (CanSend held.users ask.user level × IfSome (refusal_answer fault) (AsksAt held now ask level list salt))

abbrev pub RefusesRequest : ManagerHeld → ℕ → Asking → List ℕ → List ℕ → CallFault → Type 0
RefusesRequest held now ask list salt (Refused fault) = (IsOutOfRange ask → ⊥)
    × ((level : Level) × (level_of ask.level ≡ Some level)
    × StopsRequest held.manager now ask level list salt fault)
RefusesRequest held now ask list salt BadArgument = IsOutOfRange ask
RefusesRequest held now ask list salt BadBindings = (IsOutOfRange ask → ⊥)
    × ((level : Level) × (level_of ask.level ≡ Some level) × CanSend held.manager.users ask.user level
    × ((vs : List Variable) → AreBindings vs list → ⊥))
RefusesRequest held now ask list salt _ = ⊥

-- The message is to be sent, and its answer is waited for.
abbrev pub Waits : ManagerHeld → List ℕ → Pending → ManagerHeld → Type 0
Waits old text pending new = new ≡ record old { message = Some text; pending = Some pending }

abbrev pub RequestsHeld : {V : Type 0} → ManagerHeld → ℕ → Asking → List ℕ → List ℕ → Result V CallFault
    → ManagerHeld → Type 0
RequestsHeld old now ask list salt (Ok done) new = (IsOutOfRange ask → ⊥)
    × ((level : Level) × (text : List ℕ) × (a : Pending) × (level_of ask.level ≡ Some level)
    × IsRequestText old.manager now ask level list salt text
    × Remembers a ask.id ask.engine ask.user level ask.context_engine ask.context_name (pos ask.request_id)
    × Waits old text a new)
RequestsHeld old now ask list salt (Err fault) new = RefusesRequest old now ask list salt fault × (new ≡ old)

-- The discovery request is to be sent, and its answer is waited for.
abbrev pub DiscoversHeld : {V : Type 0} → ManagerHeld → ℕ → Result V CallFault → ManagerHeld → Type 0
DiscoversHeld old id (Ok done) new = (id ≤ MAX_INTEGER32)
    × ((text : List ℕ) × (a : Pending) × Seals old.manager.users (discovering id) (Ok text)
    × Remembers a id [] [] NoAuthNoPriv [] [] (pos id) × Waits old text a new)
DiscoversHeld old id (Err BadArgument) new = (MAX_INTEGER32 < id) × (new ≡ old)
DiscoversHeld old id (Err (Refused fault)) new = (id ≤ MAX_INTEGER32) × (fault ≡ OutOfMemory) × (new ≡ old)
DiscoversHeld old id (Err _) new = ⊥

-- ---- clocks

-- The clocks that the text saves are joined in.
abbrev pub AbsorbsHeld : {V : Type 0} → ManagerHeld → List ℕ → ℕ → Result V CallFault → ManagerHeld → Type 0
AbsorbsHeld old text now (Ok done) new =
    (clocks : Marks) × (joined : Marks) × Saves now text clocks × IsMarkJoinOf old.manager.clocks clocks joined
    × (new ≡ record old { manager = record { users = old.manager.users; clocks = joined } })
AbsorbsHeld old text now (Err BadClocks) new = ((clocks : Marks) → Saves now text clocks → ⊥) × (new ≡ old)
AbsorbsHeld old text now (Err (Refused fault)) new = (fault ≡ OutOfMemory) × (new ≡ old)
AbsorbsHeld old text now (Err _) new = ⊥

-- The saved text of the marks, which are within their bounds, is the message.
abbrev pub SavesHeld : {V : Type 0} → ManagerHeld → Result V CallFault → ManagerHeld → Type 0
SavesHeld old (Ok done) new = AreMarks old.manager.clocks
    × (new ≡ record old { message = Some (listing old.manager.clocks) })
SavesHeld old (Err fault) new = (fault ≡ Refused OutOfMemory) × (new ≡ old)

-- the pair that is held of the engine
abbrev pub TellsPair : ManagerHeld → List ℕ → Result BootsAndTime CallFault → Type 0
TellsPair held engine (Ok pair) = HasEngineLength engine × (pair_at held.manager.clocks engine ≡ Some pair)
TellsPair held engine (Err BadArgument) = HasEngineLength engine → ⊥
TellsPair held engine (Err NothingTaken) = HasEngineLength engine × (pair_at held.manager.clocks engine ≡ None)
TellsPair held engine (Err _) = ⊥
