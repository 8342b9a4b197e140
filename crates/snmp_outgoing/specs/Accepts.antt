-- When what was sealed is accepted by who takes it.
--
-- `IsTakenInTime`. What comes of a message where it is taken: it is accepted if and only if its pair is in the
-- time window or auth is clear, with what was sent given on; else it is refused as NotInWindow; and it has no
-- other answer. `IsFor`: who takes it allows its engine and has its user, at a level with authentication
-- the sender's own.
use Rattle.snmp_message.specs.declared.refusal.Refusal.TheVariants.{NotInWindow}
use Rattle.snmp_message.specs.declared.refusal.Refusal.{Refusal}
use Rattle.std.specs.Prelude.{◌≡◌, ℕ, true, List, Result, Ok, Err}
use Rattle.snmp_message.specs.Level.{level_of}
use Rattle.snmp_message.specs.Scoped.{Contexts, ScopedText, ScopedFront}
use Rattle.snmp_msg.specs.Pdu.{PduParts, PduText}
use Rattle.engine_clock.specs.Pairs.{BootsAndTime}
use Rattle.engine_clock.specs.Windows.{InAgentWindow}
use Rattle.usm_users.specs.User.{User}
use Rattle.usm_users.specs.Users.{user_named, HasUser, HasUserAt}
use Rattle.usm_core.specs.Authentic.{HasEngineLength}
use Rattle.usm_core.specs.Verified.{AllowsEngine, AllowsUser}
use Rattle.usm_core.specs.Sealed.{Sending, SendingFits}
use Rattle.snmp_incoming.specs.Outcome.{Given, Taker, as_agent, as_manager, side_at, own_pair, IsFreshAt, Outcome}

-- The message is for who takes it with these users: its engine and its user are allowed there, the user has
-- the level, where auth is set it is the same user as the sender's, and the message has a PDU.
pub record IsFor (taker : Taker) (senders users : List User) (m : Sending) (c : Contexts) (p : PduParts) : Type 0 where
  pub fits : SendingFits m
  pub model : m.header.model ≡ 3
  pub engine_length : HasEngineLength m.engine
  pub engine : AllowsEngine (side_at taker) m.engine
  pub same_user : m.header.auth ≡ true → user_named users m.user ≡ user_named senders m.user
  pub user : AllowsUser (side_at taker) users m.user (level_of m.header)
  pub level : HasUser users m.user → HasUserAt users m.user (level_of m.header)
  pub scoped : ScopedText 0 m.scoped c
  pub pdu : PduText c.pdu p

-- What is given on is what was sent: engine, user, level, msgID, msgMaxSize and ScopedPDU.
pub record GivesBack (m : Sending) (c : Contexts) (p : PduParts) (g : Given) : Type 0 where
  pub engine_is : g.engine ≡ m.engine
  pub user_is : g.user ≡ m.user
  pub level_is : g.level ≡ level_of m.header
  pub id_is : g.id ≡ m.header.id
  pub max_size_is : g.max_size ≡ m.header.max_size
  pub tag_is : g.tag ≡ p.tag
  pub contexts : Contexts
  pub front : ScopedFront g.text contexts
  pub context_engine_is : contexts.engine ≡ c.engine
  pub context_name_is : contexts.name ≡ c.name
  pub pdu_is : contexts.pdu ≡ c.pdu

-- a message of the engine with this pair is in the time window of who takes it (RFC 3414, section 3.2, step 7)
abbrev pub IsPairFresh : Taker → ℕ → List ℕ → BootsAndTime → Type 0
IsPairFresh (as_agent own boots started) now engine pair = InAgentWindow (own_pair boots started now) pair
IsPairFresh (as_manager held) now engine pair = IsFreshAt held engine pair now

-- where auth is set, the pair is in the window
abbrev pub IsInTime : Taker → ℕ → Sending → Type 0
IsInTime taker now m = m.header.auth ≡ true → IsPairFresh taker now m.engine m.pair

abbrev pub IsAccepted : Taker → List User → ℕ → List ℕ → Sending → Contexts → PduParts → Type 0
IsAccepted taker users now w m c p = (g : Given) × Outcome taker users now w (Ok g) × GivesBack m c p g

-- The answer to the message: what was sent where it is in time, and else NotInWindow.
pub record IsAnsweredInTime (taker : Taker) (now : ℕ) (m : Sending) (c : Contexts) (p : PduParts)
    (answer : Result Given Refusal) : Type 0 where
  pub in_time : IsInTime taker now m → (g : Given) × (answer ≡ Ok g) × GivesBack m c p g
  pub late : (IsInTime taker now m → ⊥) → answer ≡ Err NotInWindow

-- What comes of the message where it is taken: it is accepted if and only if it is in time, and else refused
-- as NotInWindow, and there is no other answer.
pub record IsTakenInTime (taker : Taker) (users : List User) (now : ℕ) (w : List ℕ) (m : Sending) (c : Contexts)
    (p : PduParts) : Type 0 where
  pub accepted : IsInTime taker now m → IsAccepted taker users now w m c p
  pub accepted_only : (g : Given) → Outcome taker users now w (Ok g) → IsInTime taker now m
  pub late : (IsInTime taker now m → ⊥) → Outcome taker users now w (Err NotInWindow)
  pub only : (answer : Result Given Refusal) → Outcome taker users now w answer
      → IsAnsweredInTime taker now m c p answer
