-- Messages by their parts, and what these need.
--
-- `Speech`. What a message says, by its parts; `spoken` is how it is sent, and `SpeechFits` that its
-- numbers and lengths are in their ranges and its bindings fit.
use Rattle.std.specs.Prelude.{◌≡◌, ◌≤◌, ℕ, Bool, true, List, length}
use Rattle.snmp_ber.specs.declared.level.Level.{Level}
use Rattle.snmp_ber.specs.Spelling.{head_size}
use Rattle.snmp_ber.specs.declared.number.TheConstants.{MAX_INTEGER32}
use Rattle.snmp_message.specs.Scoped.{Contexts, contexts_text, contexts_placed, scoped_text}
use Rattle.snmp_msg.specs.Variables.{Variable, AllFit, variables_text}
use Rattle.snmp_msg.specs.Pdu.{PduParts, AreInRange, pdu_text}
use Rattle.snmp_msg.specs.PduTypes.{IsPduTag}
use Rattle.engine_clock.specs.Pairs.{BootsAndTime, IsPair}
use Rattle.usm_users.specs.User.{User}
use Rattle.usm_users.specs.Users.{user_named, HasUser, HasUserAt}
use Rattle.usm_core.specs.Authentic.{HasEngineLength}
use Rattle.usm_core.specs.Verified.{Side, AllowsUser}
use Rattle.usm_core.specs.Sealed.{Sending}
use Rattle.snmp_outgoing.specs.Bodies.{has_auth, header_at}

-- What a message says: the fields of its header and its security parameters, its contexts and its PDU.
pub record Speech : Type 0 where
  pub level : Level
  pub id : ℕ
  pub reportable : Bool
  pub engine : List ℕ
  pub pair : BootsAndTime
  pub user : List ℕ
  pub salt : List ℕ
  pub context_engine : List ℕ
  pub context_name : List ℕ
  pub pdu : PduParts

-- the message that is sent with it
abbrev pub spoken : Speech → Sending
spoken s = record {
  header = header_at s.level s.id s.reportable;
  engine = s.engine;
  pair = s.pair;
  user = s.user;
  salt = s.salt;
  scoped = scoped_text s.context_engine s.context_name (pdu_text s.pdu);
}

-- the contexts and the PDU of its ScopedPDU
abbrev pub spoken_contexts : Speech → Contexts
spoken_contexts s = contexts_placed
    (head_size (length (contexts_text s.context_engine s.context_name (pdu_text s.pdu)))) s.context_engine
    s.context_name (pdu_text s.pdu)

-- Its numbers and lengths are in their ranges, and its PDU has bindings that fit.
pub record SpeechFits (s : Speech) : Type 0 where
  pub id : s.id ≤ MAX_INTEGER32
  pub engine : HasEngineLength s.engine
  pub pair : IsPair s.pair
  pub user : length s.user ≤ 32
  pub salt : length s.salt ≡ 8
  pub tag : IsPduTag s.pdu.tag
  pub numbers : AreInRange s.pdu
  pub variables : List Variable
  pub bindings : AllFit variables
  pub list : s.pdu.list ≡ variables_text variables

-- Who takes the message has its user, at its level, and at a level with authentication it is the sender's user.
pub record HasSameUser (side : Side) (senders users : List User) (name : List ℕ) (level : Level) : Type 0 where
  pub same : has_auth level ≡ true → user_named users name ≡ user_named senders name
  pub user : AllowsUser side users name level
  pub supports : HasUser users name → HasUserAt users name level
