-- The layout of msgSecurityParameters (RFC 3414, section 2.4).
--
-- `SecText` (RFC 3414, section 2.4). `SecText at x s`: x, which stands at this place, is exactly one
-- UsmSecurityParameters with the fields s, whose content is the six elements joined (`SecContent at content
-- s`); among them `auth_at`, where the content of msgAuthenticationParameters stands. `IsCut w m s front
-- back`: w is front, that content and back joined, front ending at `auth_at`.
use Rattle.std.specs.Prelude.{◌≡◌, ℕ, ◌+◌, ◌-◌, ◌≤◌, nat_lt, if◌then◌else◌, List, ◌++◌, length, Option, Some, None}
use Rattle.snmp_message.specs.declared.message.TheConstants.{LARGEST}
use Rattle.snmp_ber.specs.Element.{IsHead, IsElement}
use Rattle.snmp_ber.specs.Reading.{Front}
use Rattle.snmp_message.specs.Steps.{◌>>=◌, when_ended}
use Rattle.snmp_message.specs.Layout.{IsNumber, Parts, Outer}
use Rattle.snmp_message.specs.Reading.{element_in, number_in}
use Rattle.snmp_message.specs.declared.security.Security.{Security}
use Rattle.snmp_ber.specs.Spelling.{head_of, element}
use Rattle.snmp_ber.specs.declared.number.TheConstants.{MAX_INTEGER32}
use Rattle.snmp_message.specs.Spelling.{number}

-- What msgSecurityParameters say.
pub record Fields : Type 0 where
  pub engine : List ℕ
  pub boots : ℕ
  pub time : ℕ
  pub user : List ℕ
  pub auth : List ℕ
  pub salt : List ℕ
  -- the place of the content of msgAuthenticationParameters in the datagram
  pub auth_at : ℕ

-- The content of a UsmSecurityParameters with these fields, which stands at this place of a datagram: the
-- texts of its six elements joined.
pub record SecContent (at : ℕ) (content : List ℕ) (s : Fields) : Type 0 where
  pub engine : List ℕ
  pub is_engine : IsElement 4 s.engine engine
  pub boots : List ℕ
  pub is_boots : IsNumber 0 s.boots boots
  pub time : List ℕ
  pub is_time : IsNumber 0 s.time time
  pub user : List ℕ
  pub is_user : IsElement 4 s.user user
  pub user_allowed : length s.user ≤ 32
  pub auth_head : List ℕ
  pub is_auth : IsHead 4 (length s.auth) auth_head
  pub salt : List ℕ
  pub is_salt : IsElement 4 s.salt salt
  pub joined : content ≡ engine ++ (boots ++ (time ++ (user ++ (auth_head ++ (s.auth ++ salt)))))
  pub auth_place : s.auth_at ≡ at + (length engine + (length boots + (length time + (length user + length auth_head))))

-- The text, which stands at this place of a datagram, is exactly a UsmSecurityParameters with these fields.
pub record SecText (at : ℕ) (x : List ℕ) (s : Fields) : Type 0 where
  pub head : List ℕ
  pub content : List ℕ
  pub is_whole : IsHead 48 (length content) head
  pub whole : x ≡ head ++ content
  pub says : SecContent (at + length head) content s

-- the one reading, of a text that ends at this place
abbrev pub with_user : Front → Option Front
with_user f = if nat_lt 32 (length f.content) then None else Some f

abbrev pub with_salt : ℕ → List ℕ → ℕ → ℕ → List ℕ → List ℕ → Front → Option Fields
with_salt end engine boots time user auth f =
    if nat_lt 0 (length f.rest) then None
    else Some (record {
      engine = engine;
      boots = boots;
      time = time;
      user = user;
      auth = auth;
      salt = f.content;
      auth_at = end - (f.head_size + length f.content) - length auth;
    })

unfoldable pub fields_in : ℕ → List ℕ → Option Fields
fields_in end octets = do
  engine ← element_in 4 octets
  boots ← number_in 0 engine.rest
  time ← number_in 0 boots.1
  any ← element_in 4 time.1
  user ← with_user any
  auth ← element_in 4 user.rest
  salt ← element_in 4 auth.rest
  with_salt end engine.content boots.0 time.0 user.content auth.content salt

unfoldable pub security_in : ℕ → List ℕ → Option Fields
security_in end octets = do
  whole ← element_in 48 octets
  fields ← fields_in (end - length whole.rest) whole.content
  when_ended whole.rest fields

abbrev pub fields_of : Security → Fields
fields_of s = record {
  engine = s.engine.now;
  boots = s.boots;
  time = s.time;
  user = s.user.now;
  auth = s.auth.now;
  salt = s.salt.now;
  auth_at = s.auth_at;
}

-- The datagram in three pieces, of which the middle one is the content of msgAuthenticationParameters.
pub record IsCut (w : List ℕ) (m : Parts) (s : Fields) (front back : List ℕ) : Type 0 where
  pub outer : Outer w m
  pub security : SecText m.security_at m.security s
  pub parts : w ≡ front ++ (s.auth ++ back)
  pub place : length front ≡ s.auth_at

-- ---- the canonical spelling

-- the ranges of the fields
pub record FieldsFit (s : Fields) : Type 0 where
  pub boots : s.boots ≤ MAX_INTEGER32
  pub time : s.time ≤ MAX_INTEGER32
  pub user : length s.user ≤ 32

-- fields that can stand in a datagram
pub record IsShort (s : Fields) : Type 0 where
  pub engine : length s.engine ≤ LARGEST
  pub auth : length s.auth ≤ LARGEST
  pub salt : length s.salt ≤ LARGEST

unfoldable pub fields_text : Fields → List ℕ
fields_text s = element 4 s.engine
    ++ (number s.boots ++ (number s.time ++ (element 4 s.user ++ (element 4 s.auth ++ element 4 s.salt))))

-- the text of msgSecurityParameters; the place is not looked at
unfoldable pub security_text : Fields → List ℕ
security_text s = element 48 (fields_text s)

-- the same fields, in a text that was written at this place
abbrev pub placed : ℕ → Fields → Fields
placed at s = record s {
  auth_at = at + (length (head_of 48 (length (fields_text s)))
      + (length (element 4 s.engine)
      + (length (number s.boots)
      + (length (number s.time) + (length (element 4 s.user) + length (head_of 4 (length s.auth)))))));
}

-- the same fields with another msgAuthenticationParameters
abbrev pub with_auth : List ℕ → Fields → Fields
with_auth auth s = record s { auth = auth }
