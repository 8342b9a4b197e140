-- What becomes of a datagram that a listener takes, and what the listener becomes.
--
-- `Answers`: what its manager or its agent answers to the datagram. `IsAccepted`: it is accepted. `TakesAs`: what
-- becomes of it. `Stays`: what never changes.
use Rattle.std.specs.Prelude.{◌≡◌, ◌<◌, ◌⊎◌, ℕ, List, [], Option, Some, None, Result, Ok, Err, replicate}
use Rattle.std.specs.Global.{Vec}
use Rattle.std.specs.Vec.{vec_capacity, vec_len}
use Rattle.sha2.specs.Sha256.{sha256}
use Rattle.snmp_message.specs.Numbers.{in_table}
use Rattle.snmp_message.specs.declared.refusal.Refusal.{Refusal}
use Rattle.snmp_msg.specs.PduTypes.{pdu_tag}
use Rattle.snmp_msg.specs.declared.pdu_type.PduType.TheVariants.{InformRequest, SNMPv2Trap}
use Rattle.engine_clock.specs.Marks.{Marks}
use Rattle.snmp_incoming.specs.Outcome.{Given}
use Rattle.snmp_manager.specs.Takes.{Takes}
use Rattle.snmp_manager.specs.Views.{Held}
use Rattle.snmp_agent.specs.Agent.{AgentState, AgentTakes}
use Rattle.snmp_agent.specs.Report.{AgentReports, report_of}
use Rattle.snmp_listener.specs.declared.dropped.Dropped.{Dropped}
use Rattle.snmp_listener.specs.declared.dropped.Dropped.TheVariants as drops
use Rattle.snmp_listener.specs.declared.listener.Listener.{Listener}
use Rattle.snmp_listener.specs.declared.listener.ListenerTaken.{ListenerTaken}
use Rattle.snmp_listener.specs.declared.listener.ListenerTaken.TheVariants.{Trap, Inform, Copy, Dropped as IsDropped}
use Rattle.snmp_listener.specs.declared.rules.ListenerRules.{ListenerRules}
use Rattle.snmp_listener.specs.declared.told.ToldNote.{ToldNote}
use Rattle.snmp_listener.specs.declared.told.ToldNote.TheVariants as notes
use Rattle.snmp_listener.specs.declared.told.ToldNotification.{ToldNotification}
use Rattle.snmp_listener.specs.declared.told.ToldSender.{ToldSender}
use Rattle.snmp_listener.specs.Acknowledging.{Acknowledges, TellsTooBig}
use Rattle.snmp_listener.specs.Counting.{counts_after, places}
use Rattle.snmp_listener.specs.Told.{IsNoted, sender_of, told_now}
use Rattle.snmp_listener.specs.Wanted.{IsForManager, IsUnwanted, IsWanted}

-- a listener: its engine ID, its agent and its manager, its rules, what it told, and its counters
pub record ListenerState : Type 0 where
  pub engine : List ℕ
  pub agent : AgentState
  pub manager : Held
  pub rules : ListenerRules
  pub told : List ToldNotification
  pub counts : List ℕ

abbrev pub state_of : Listener → ListenerState
state_of l = record {
  engine = l.engine;
  agent = l.agent;
  manager = l.manager;
  rules = l.rules;
  told = l.told.list.items;
  counts = l.counts;
}

-- it told nothing, and counted nothing
abbrev pub new_listener : List ℕ → AgentState → Held → ListenerRules → ListenerState
new_listener engine agent manager rules = record {
  engine = engine;
  agent = agent;
  manager = manager;
  rules = rules;
  told = [];
  counts = replicate places 0;
}

-- there is memory to remember one more
abbrev pub HasRoom : Listener → Type 0
HasRoom l = vec_len l.told.list < vec_capacity l.told.list

-- the two kinds of notifications
pub data Kind : Type 0 where
  trap : Kind
  inform : Kind

abbrev pub tag_of : Kind → ℕ
tag_of trap = pdu_tag SNMPv2Trap
tag_of inform = pdu_tag InformRequest

-- ---- what the engine says of the datagram

-- The manager takes what is for it, and the agent all else: this is the answer of the table.
abbrev pub Answers : Kind → ListenerState → ℕ → List ℕ → Result Given Refusal → ListenerState → Type 0
Answers trap old now w answer new = IsForManager old.engine w
    × Takes old.manager now w (Some answer) new.manager × (new.agent ≡ old.agent)
Answers inform old now w answer new = ¬ IsForManager old.engine w
    × AgentTakes old.agent now w (Some answer) new.agent × (new.manager ≡ old.manager)

-- the report on a refusal; a manager has none
abbrev pub Reports : Kind → ListenerState → ℕ → List ℕ → Refusal → Option (List ℕ) → Type 0
Reports trap new now w refusal report = report ≡ None
Reports inform new now w refusal report = AgentReports new.agent now w (Some refusal) report

-- it is accepted, and fit to be told
pub record IsFit (kind : Kind) (old : ListenerState) (now : ℕ) (from w : List ℕ) (g : Given)
    (new : ListenerState) : Type 0 where
  pub answers : Answers kind old now w (Ok g) new
  pub wanted : IsWanted old.rules new.manager.users old.agent.tables (tag_of kind) from g

-- ---- what is remembered

abbrev pub sender_by : Kind → Given → Marks → Option ToldSender
sender_by trap g clocks = sender_of g clocks
sender_by inform g clocks = None

-- what the notification is, by what was told before
abbrev pub Notes : Kind → ListenerState → ℕ → List ℕ → Given → ToldNote → ListenerState → Type 0
Notes kind old now w g note new = IsNoted now new.manager.clocks old.rules.most
    (told_now now (sha256 w) (sender_by kind g new.manager.clocks)) old.told new.told note

-- nothing more is remembered, or forgotten
abbrev pub NotesNothing : ListenerState → ListenerState → Type 0
NotesNothing old new = new.told ≡ old.told

-- ---- what becomes of it

-- the Response of an Inform; a Trap has none
abbrev pub IsAnswered : Kind → ListenerState → ℕ → Given → List ℕ → Option (Vec ℕ) → Type 0
IsAnswered trap old now g salt text = text ≡ None
IsAnswered inform old now g salt None = ⊥
IsAnswered inform old now g salt (Some text) = Acknowledges old.agent now g salt (Ok text.items)

-- it is fit to be told, this is its acknowledgement, and this is what it is by what was told before
pub record IsNotified (kind : Kind) (old : ListenerState) (now : ℕ) (from w salt : List ℕ) (g : Given)
    (text : Option (Vec ℕ)) (note : ToldNote) (new : ListenerState) : Type 0 where
  pub fit : IsFit kind old now from w g new
  pub answered : IsAnswered kind old now g salt text
  pub notes : Notes kind old now w g note new

-- it is accepted, and isn't fit, for this reason
pub record IsUnfit (kind : Kind) (old : ListenerState) (now : ℕ) (from w : List ℕ) (why : Dropped) (new : ListenerState)
    : Type 0 where
  pub given : Given
  pub answers : Answers kind old now w (Ok given) new
  pub unwanted : IsUnwanted old.rules new.manager.users old.agent.tables (tag_of kind) from given why
  pub notes : NotesNothing old new

-- it is refused, with this report
pub record IsRefused (kind : Kind) (old : ListenerState) (now : ℕ) (w : List ℕ) (refusal : Refusal)
    (answer : Option (Vec ℕ)) (new : ListenerState) : Type 0 where
  pub answers : Answers kind old now w (Err refusal) new
  pub reports : Reports kind new now w refusal (report_of answer)
  pub notes : NotesNothing old new

-- it is an Inform whose acknowledgement is refused
pub record IsUnanswered (old : ListenerState) (now : ℕ) (from w salt : List ℕ) (refusal : Refusal)
    (answer : Option (Vec ℕ)) (new : ListenerState) : Type 0 where
  pub given : Given
  pub fit : IsFit inform old now from w given new
  pub refused : Acknowledges old.agent now given salt (Err refusal)
  pub too_big : TellsTooBig old.agent now given salt answer
  pub notes : NotesNothing old new

-- what becomes of it then
abbrev pub IsUnacknowledged : AgentState → ℕ → Given → List ℕ → Refusal → ListenerTaken → Type 0
IsUnacknowledged agent now g salt refusal what = (in_table refusal ≡ Some refusal)
    × ((answer : Option (Vec ℕ)) × (what ≡ IsDropped (drops.Refused refusal) answer)
    × TellsTooBig agent now g salt answer)

abbrev pub RefusesAs : Kind → ListenerState → ℕ → List ℕ → List ℕ → List ℕ → Refusal → Option (Vec ℕ) → ListenerState
    → Type 0
RefusesAs trap old now from w salt refusal answer new = IsRefused trap old now w refusal answer new
RefusesAs inform old now from w salt refusal answer new = IsRefused inform old now w refusal answer new
    ⊎ IsUnanswered old now from w salt refusal answer new

-- it is no copy, and there is no room
abbrev pub HasNoRoom : Kind → ListenerState → ℕ → List ℕ → List ℕ → List ℕ → ListenerState → Type 0
HasNoRoom kind old now from w salt new = (g : Given) × (text : Option (Vec ℕ))
    × IsNotified kind old now from w salt g text notes.NoRoom new

abbrev pub DropsAs : Kind → ListenerState → ℕ → List ℕ → List ℕ → List ℕ → Dropped → Option (Vec ℕ) → ListenerState
    → Type 0
DropsAs kind old now from w salt (drops.Refused refusal) answer new =
    RefusesAs kind old now from w salt refusal answer new
DropsAs kind old now from w salt drops.NoRoom answer new = (answer ≡ None) × HasNoRoom kind old now from w salt new
DropsAs kind old now from w salt why answer new = (answer ≡ None) × IsUnfit kind old now from w why new

abbrev pub TakesAs : Kind → ListenerState → ℕ → List ℕ → List ℕ → List ℕ → ListenerTaken → ListenerState → Type 0
TakesAs trap old now from w salt (Trap g) new = IsNotified trap old now from w salt g None notes.New new
TakesAs inform old now from w salt (Trap g) new = ⊥
TakesAs trap old now from w salt (Inform g text) new = ⊥
TakesAs inform old now from w salt (Inform g text) new =
    IsNotified inform old now from w salt g (Some text) notes.New new
TakesAs kind old now from w salt (Copy text) new = (g : Given)
    × IsNotified kind old now from w salt g text notes.Copy new
TakesAs kind old now from w salt (IsDropped why answer) new = DropsAs kind old now from w salt why answer new

-- why it isn't reported; None: it is
abbrev pub reason_of : ListenerTaken → Option Dropped
reason_of (Trap g) = None
reason_of (Inform g text) = None
reason_of (Copy text) = Some drops.Copy
reason_of (IsDropped why answer) = Some why

-- the same engine ID and rules
pub record Stays (old new : ListenerState) : Type 0 where
  pub engine : new.engine ≡ old.engine
  pub rules : new.rules ≡ old.rules

-- and the same counters
pub record IsSame (old new : ListenerState) : Type 0 where
  pub stays : Stays old new
  pub counts : new.counts ≡ old.counts

-- what a listener is before the datagram is counted
abbrev pub uncounted : ListenerState → ListenerState → ListenerState
uncounted old new = record new { counts = old.counts }

-- what becomes of the datagram, and the reason for which it isn't reported is counted
abbrev pub ListenerTakes : ListenerState → ℕ → List ℕ → List ℕ → List ℕ → ListenerTaken → ListenerState → Type 0
ListenerTakes old now from w salt what new = Stays old new
    × ((kind : Kind) × TakesAs kind old now from w salt what (uncounted old new))
    × (new.counts ≡ counts_after old.counts (reason_of what))
