-- What a datagram is answered: the table of refusals, each row a condition on the whole datagram, and the
-- first that fails answers (after RFC 3412, section 7.2, and RFC 3414, section 3.2).
--
-- `Outcome taker users now w answer` (after RFC 3412, section 7.2 and RFC 3414, section 3.2). The whole
-- table for an agent or a manager, in three parts: an agent's clock, then `Verifies`, then `Weighs` (the
-- time window, the salt) and `ReadsText` (the scoped PDU, its PDU). Each row needs a fact about the whole
-- datagram, and the first that fails gives its number. `Given` is what is given on of an accepted one,
-- msgMaxSize too. `IsTextOf`: the octets that begin with the scoped PDU are what msgData is opened to, or
-- the datagram from msgData on. The place of a fault isn't part of it.
use Rattle.snmp_message.specs.declared.refusal.Refusal.TheVariants.{BadPdu, BadScoped, ClockExhausted}
use Rattle.snmp_message.specs.declared.refusal.Refusal.TheVariants.{DecryptionError, NotInWindow}
use Rattle.snmp_message.specs.declared.refusal.Refusal.{Refusal}
use Rattle.std.specs.Prelude.{◌≡◌, ◌≤◌, ◌-◌, ℕ, List, length, drop, true, Result, Some, MatchBool}
use Rattle.snmp_ber.specs.declared.level.Level.{Level}
use Rattle.snmp_message.specs.Level.{level_of}
use Rattle.engine_clock.specs.Pairs.{BootsAndTime, pair_max}
use Rattle.engine_clock.specs.Marks.{SeenPair, Marks, mark_at}
use Rattle.engine_clock.specs.Windows.{InAgentWindow, InManagerWindow, notion_at}
use Rattle.usm_users.specs.User.{User}
use Rattle.usm_core.specs.Table.{Needs, Then, Gives}
use Rattle.usm_core.specs.Sealed.{IsPlaintext}
use Rattle.usm_core.specs.Verified.{Side, agent, manager, Verified, Verifies}
use Rattle.snmp_incoming.specs.Texts.{FrontOf, PduOf}

-- What is given on of an accepted datagram.
pub record Given : Type 0 where
  pub engine : List ℕ
  pub user : List ℕ
  pub level : Level
  -- msgID
  pub id : ℕ
  -- msgMaxSize: the most octets of a message that the sender can take
  pub max_size : ℕ
  -- the tag of the PDU
  pub tag : ℕ
  -- The octets that begin with the ScopedPDU: the datagram from msgData on, or where priv is set what msgData
  -- is opened to.
  pub text : List ℕ

-- Who takes the datagram: an agent with its engine, its boots and the moment of its start, or a manager with
-- the marks that it holds once the message's own has come in.
pub data Taker : Type 0 where
  as_agent : (engine : List ℕ) (boots started : ℕ) → Taker
  as_manager : (held : Marks) → Taker

abbrev pub side_at : Taker → Side
side_at (as_agent engine boots started) = agent engine
side_at (as_manager held) = manager

-- an agent's engine time hasn't run out
abbrev pub ClockRuns : Taker → ℕ → Type 0
ClockRuns (as_agent engine boots started) now = now - started ≤ pair_max
ClockRuns (as_manager held) now = Unit {0}

-- an agent's own boots and time
abbrev pub own_pair : ℕ → ℕ → ℕ → BootsAndTime
own_pair boots started now = record { boots = boots; time = now - started }

-- the pair that a message says
abbrev pub pair_in : Verified → BootsAndTime
pair_in v = record { boots = v.fields.boots; time = v.fields.time }

-- the pair is in the window of the mark that is held of the engine
abbrev pub IsFreshAt : Marks → List ℕ → BootsAndTime → ℕ → Type 0
IsFreshAt held engine pair now = (mark : SeenPair) × (mark_at held engine ≡ Some mark)
    × InManagerWindow mark.pair (notion_at now mark) pair

-- the message is in the time window (RFC 3414, section 3.2, step 7)
abbrev pub IsFresh : Taker → ℕ → Verified → Type 0
IsFresh (as_agent engine boots started) now v = InAgentWindow (own_pair boots started now) (pair_in v)
IsFresh (as_manager held) now v = IsFreshAt held v.fields.engine (pair_in v) now

-- The text is what msgData is opened to where priv is set, or else the datagram from msgData on.
abbrev pub IsTextOf : List User → List ℕ → Verified → List ℕ → Type 0
IsTextOf users w v text =
    MatchBool v.parts.header.privacy (IsPlaintext users v.fields v.parts.data_content text)
    (text ≡ drop v.parts.data_at w)

-- the rows on the ScopedPDU that the text begins with
unfoldable pub ReadsText : Verified → List ℕ → Result Given Refusal → Type 0
ReadsText v text =
    Needs (FrontOf text) BadScoped (λ s.
    Needs (PduOf s.contexts.pdu) BadPdu (λ p.
    Gives (record {
      engine = v.fields.engine;
      user = v.fields.user;
      level = level_of v.parts.header;
      id = v.parts.header.id;
      max_size = v.parts.header.max_size;
      tag = p.pdu.tag;
      text = text;
    })))

-- the same of the text that the message has
abbrev pub ReadsMessage : List User → List ℕ → Verified → Result Given Refusal → Type 0
ReadsMessage users w v answer = (text : List ℕ) × IsTextOf users w v text × ReadsText v text answer

-- the rows on the time and the salt, and those below
unfoldable pub Weighs : Taker → List User → ℕ → List ℕ → Verified → Result Given Refusal → Type 0
Weighs taker users now w v =
    Needs (v.parts.header.auth ≡ true → IsFresh taker now v) NotInWindow (λ _.
    Needs (v.parts.header.privacy ≡ true → length v.fields.salt ≡ 8) DecryptionError (λ _.
    ReadsMessage users w v))

-- the whole table
unfoldable pub Outcome : Taker → List User → ℕ → List ℕ → Result Given Refusal → Type 0
Outcome taker users now w =
    Needs (ClockRuns taker now) ClockExhausted (λ _.
    Then (Verifies (side_at taker) users w) (Weighs taker users now w))
