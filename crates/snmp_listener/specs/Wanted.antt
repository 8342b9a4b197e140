-- Which datagrams are a manager's, and which accepted messages are to be told.
--
-- `IsForManager` (RFC 3412, section 6.4; RFC 3414, section 3.1). `IsWanted`: an accepted message is to be told, unless
-- it was told before. `IsUnwanted`: the first reason why it isn't. `IsHighEnough`, `IsLow`: the least level.
use Rattle.std.specs.Prelude.{◌≡◌, ◌≢◌, ◌<◌, ◌≤◌, ℕ, false, List, All, Contains, Option, Some, None}
use Rattle.std.specs.Global.{Vec}
use Rattle.snmp_ber.specs.Level.{level_number}
use Rattle.snmp_ber.specs.declared.level.Level.{Level}
use Rattle.snmp_ber.specs.declared.level.Level.TheVariants.{NoAuthNoPriv}
use Rattle.snmp_message.specs.Layout.{Outer, Parts}
use Rattle.snmp_message.specs.Security.{Fields, SecText}
use Rattle.snmp_message.specs.Scoped.{Contexts, ScopedFront}
use Rattle.snmp_msg.specs.Pdu.{PduParts, PduText}
use Rattle.snmp_msg.specs.Variables.{Variable, variables_of}
use Rattle.usm_users.specs.User.{User}
use Rattle.usm_users.specs.Users.{HasUserAt}
use Rattle.vacm_core.specs.Tables.{Tables}
use Rattle.vacm_core.specs.declared.access.ViewType.TheVariants.{Notify}
use Rattle.vacm_next.specs.Next.{Sees}
use Rattle.snmp_incoming.specs.Outcome.{Given}
use Rattle.snmp_agent.specs.Decides.{question}
use Rattle.snmp_listener.specs.declared.dropped.Dropped.{Dropped}
use Rattle.snmp_listener.specs.declared.dropped.Dropped.TheVariants.{Refused, OtherPdu, LowLevel, OtherAddress}
use Rattle.snmp_listener.specs.declared.dropped.Dropped.TheVariants.{OutsideView, Copy, NoRoom}
use Rattle.snmp_listener.specs.declared.rules.ListenerRules.{ListenerRules}

-- The message is under another engine ID than this one, as each is whose sender is authoritative, and it asks for no
-- report, as none may that isn't of the Confirmed Class.
pub record IsForManager (engine w : List ℕ) : Type 0 where
  pub parts : Parts
  pub outer : Outer w parts
  pub fields : Fields
  pub security : SecText parts.security_at parts.security fields
  pub other : fields.engine ≢ engine
  pub asks_nothing : parts.header.reportable ≡ false

-- the octets are among the names
abbrev pub IsNamed : List (Vec ℕ) → List ℕ → Type 0
IsNamed names octets = (name : Vec ℕ) × Contains names name × (name.items ≡ octets)

-- the names of the variables that isAccessAllowed allows in the notify view of the message's user, at its level, in a
-- context (RFC 3415, section 3)
abbrev pub notified_in : Tables → Given → List ℕ → List ℕ → Type 0
notified_in tables g context = Sees tables (question g.user g.level context) Notify

-- each of the message's variables is in that view, in the message's context (RFC 3413, section 3.3, step 3)
pub record InNotifyView (tables : Tables) (g : Given) : Type 0 where
  pub contexts : Contexts
  pub scoped : ScopedFront g.text contexts
  pub pdu : PduParts
  pub is_pdu : PduText contexts.pdu pdu
  pub all : All (λ (v : Variable). notified_in tables g contexts.name v.name) (variables_of pdu.list)

-- The level isn't below the least one: the one that is given, or else the highest for which the user has the keys.
abbrev pub IsHighEnough : Option Level → List User → List ℕ → Level → Type 0
IsHighEnough (Some least) users name level = level_number least ≤ level_number level
IsHighEnough None users name level = (other : Level) → HasUserAt users name other
    → level_number other ≤ level_number level

-- it is
abbrev pub IsLow : Option Level → List User → List ℕ → Level → Type 0
IsLow (Some least) users name level = level_number level < level_number least
IsLow None users name level = (other : Level) × HasUserAt users name other
    × (level_number level < level_number other)

-- An accepted message with a PDU of this tag is to be reported: it isn't below the least level; if it has no
-- authentication, it comes from one of the addresses; and it is in the notify view of its user, if that is one of those
-- who need it.
pub record IsWanted (rules : ListenerRules) (users : List User) (tables : Tables) (tag : ℕ) (from : List ℕ)
    (g : Given) : Type 0 where
  pub tag_is : g.tag ≡ tag
  pub level : IsHighEnough rules.least_level users g.user g.level
  pub address : g.level ≡ NoAuthNoPriv → IsNamed rules.sources.items from
  pub view : IsNamed rules.viewed.items g.user → InNotifyView tables g

-- it isn't, for this reason
abbrev pub IsUnwanted : ListenerRules → List User → Tables → ℕ → List ℕ → Given → Dropped → Type 0
IsUnwanted rules users tables tag from g OtherPdu = g.tag ≢ tag
IsUnwanted rules users tables tag from g LowLevel = IsLow rules.least_level users g.user g.level
IsUnwanted rules users tables tag from g OtherAddress = (g.level ≡ NoAuthNoPriv) × ¬ IsNamed rules.sources.items from
IsUnwanted rules users tables tag from g OutsideView = IsNamed rules.viewed.items g.user × ¬ InNotifyView tables g
IsUnwanted rules users tables tag from g (Refused refusal) = ⊥
IsUnwanted rules users tables tag from g Copy = ⊥
IsUnwanted rules users tables tag from g NoRoom = ⊥
