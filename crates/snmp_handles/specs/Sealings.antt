-- A ScopedPDU that a caller has sealed as it says: with any numbers of the header and any boots and time (RFC 3412,
-- section 6, and RFC 3414, sections 2.4 and 3.1).
--
-- `Sealing`: how it is sealed, and for whom. `sealed_as`: the message. `HasNoHeader`, `IsUnsealable`: a number,
-- a length or the ScopedPDU is out of its range. `SealsHeld`: the message is left to be sent.
use Rattle.std.specs.Prelude.{◌≡◌, ◌<◌, ◌+◌, ◌⊎◌, ℕ, Bool, List, length, Some, None, Result, Ok, Err, IfSome}
use Rattle.snmp_ber.specs.Element.{IsElement}
use Rattle.snmp_ber.specs.declared.level.Level.{Level}
use Rattle.snmp_ber.specs.declared.number.TheConstants.{MAX_INTEGER32}
use Rattle.snmp_message.specs.Spelling.{HeaderFits}
use Rattle.snmp_message.specs.declared.header.Header.{Header}
use Rattle.snmp_message.specs.declared.refusal.Refusal.{Refusal}
use Rattle.snmp_message.specs.declared.message.TheConstants.{LARGEST}
use Rattle.snmp_message.specs.declared.refusal.Refusal.TheVariants.{OutOfMemory, TooLarge}
use Rattle.usm_core.specs.Sealed.{Sending, Seals, IsSealable}
use Rattle.usm_core.specs.Table.{refusal_answer}
use Rattle.usm_users.specs.User.{User}
use Rattle.snmp_outgoing.specs.Bodies.{has_auth, has_privacy}
use Rattle.snmp_handles.specs.Managers.{ManagerHeld}
use Rattle.snmp_handles.specs.Numbers.{level_of}
use Rattle.snmp_handles.specs.declared.sealing.SealedOf.{SealedOf}
use Rattle.snmp_handles.specs.declared.fault.CallFault.{CallFault}
use Rattle.snmp_handles.specs.declared.fault.CallFault.TheVariants.{Refused, BadArgument}

-- how a ScopedPDU is sealed, and for whom
pub record Sealing : Type 0 where
  -- msgID
  pub id : ℕ
  -- msgMaxSize
  pub max_size : ℕ
  -- the reportableFlag of msgFlags
  pub reportable : Bool
  -- msgAuthoritativeEngineID
  pub engine : List ℕ
  -- msgAuthoritativeEngineBoots
  pub boots : ℕ
  -- msgAuthoritativeEngineTime
  pub time : ℕ
  -- msgUserName
  pub user : List ℕ
  pub level : ℕ

abbrev pub sealing_of : SealedOf → Sealing
sealing_of of = record {
  id = of.id;
  max_size = of.max_size;
  reportable = of.reportable;
  engine = of.engine.now;
  boots = of.boots;
  time = of.time;
  user = of.user.now;
  level = of.level;
}

-- its msgGlobalData, with the user-based security model
abbrev pub header_of : Sealing → Level → Header
header_of s level = record {
  id = s.id;
  max_size = s.max_size;
  auth = has_auth level;
  privacy = has_privacy level;
  reportable = s.reportable;
  model = 3;
}

-- the message with this salt (RFC 3414, section 3.1)
abbrev pub sealed_as : Sealing → Level → List ℕ → List ℕ → Sending
sealed_as s level salt scoped = record {
  header = header_of s level;
  engine = s.engine;
  pair = record { boots = s.boots; time = s.time };
  user = s.user;
  salt = salt;
  scoped = scoped;
}

-- ---- its ranges

-- The octets are one whole SEQUENCE, as a ScopedPDU is. What stands in it is not looked at.
abbrev pub IsSequence : List ℕ → Type 0
IsSequence octets = (content : List ℕ) × IsElement 48 content octets

-- a number of the header is out of its range (RFC 3412, section 6)
abbrev pub HasNoHeader : Sealing → Type 0
HasNoHeader s = (level_of s.level ≡ None) ⊎ ((MAX_INTEGER32 < s.id) ⊎ ((s.max_size < 484)
    ⊎ (MAX_INTEGER32 < s.max_size)))

-- A number, a length or the ScopedPDU is out of its range.
abbrev pub IsUnsealable : Sealing → List ℕ → Type 0
IsUnsealable s scoped = HasNoHeader s ⊎ ((MAX_INTEGER32 < s.boots) ⊎ ((MAX_INTEGER32 < s.time)
    ⊎ ((32 < length s.user) ⊎ (IsSequence scoped → ⊥))))

-- Between the functions: the header at the sealing's level, whose numbers are in their ranges.
pub record HasHeader (s : Sealing) (h : Header) : Type 0 where
  pub level : Level
  pub level_is : level_of s.level ≡ Some level
  pub header_is : h ≡ header_of s level
  pub fits : HeaderFits h
  pub in_range : HasNoHeader s → ⊥

-- ---- what sealing leaves

-- What `Seals` refuses the message for; or memory ran out, once none of its rows before the text refuses it. It is too
-- large only where its parts leave less room for the rest than 150 octets.
abbrev pub StopsSealing : List User → Sending → Refusal → Type 0
StopsSealing users m fault = IfSome (refusal_answer fault) (Seals users m)
    × (fault ≡ OutOfMemory → IsSealable users m)
    × (fault ≡ TooLarge → LARGEST < 150 + length m.engine + length m.user + length m.scoped)

abbrev pub RefusesSealing : ManagerHeld → Sealing → List ℕ → List ℕ → CallFault → Type 0
RefusesSealing held s salt scoped BadArgument = IsUnsealable s scoped
RefusesSealing held s salt scoped (Refused fault) = (IsUnsealable s scoped → ⊥)
    × ((level : Level) × (level_of s.level ≡ Some level)
    × StopsSealing held.manager.users (sealed_as s level salt scoped) fault)
RefusesSealing held s salt scoped _ = ⊥

-- The message is to be sent. The users, the clocks, what is kept and what is waited for are as they were.
abbrev pub SealsHeld : {V : Type 0} → ManagerHeld → Sealing → List ℕ → List ℕ → Result V CallFault → ManagerHeld
    → Type 0
SealsHeld old s salt scoped (Ok done) new = (IsUnsealable s scoped → ⊥)
    × ((level : Level) × (text : List ℕ) × (level_of s.level ≡ Some level)
    × Seals old.manager.users (sealed_as s level salt scoped) (Ok text)
    × (new ≡ record old { message = Some text }))
SealsHeld old s salt scoped (Err fault) new = RefusesSealing old s salt scoped fault × (new ≡ old)
