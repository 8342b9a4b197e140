-- The layout of a ScopedPDU (RFC 3412, section 6.8).
--
-- `ScopedText` (RFC 3412, section 6.8). `ScopedContent at content s` and `ScopedText at z s`:
-- contextEngineID, contextName and one element of data. `HasScoped` and `HasSealed`: msgData is what the
-- priv flag says. `ScopedFront z s`: z begins with a scoped PDU.
use Rattle.std.specs.Prelude.{◌≡◌, ℕ, ◌+◌, ◌-◌, ◌≤◌, nat_lt, slice_range, if◌then◌else◌, List, ◌++◌, length, Option}
use Rattle.std.specs.Prelude.{Some, None, true, false}
use Rattle.snmp_ber.specs.Element.{IsHead, IsElement}
use Rattle.snmp_ber.specs.Reading.{Front, front_of}
use Rattle.snmp_ber.specs.Spelling.{head_size, element}
use Rattle.snmp_message.specs.Steps.{◌>>=◌}
use Rattle.snmp_message.specs.Layout.{Parts}
use Rattle.snmp_message.specs.Reading.{element_in}
use Rattle.snmp_message.specs.declared.scoped.Scoped.{Scoped}
use Rattle.snmp_message.specs.declared.scoped.ScopedPlace.{ScopedPlace}

-- What a ScopedPDU says. Its data is a whole element.
pub record Contexts : Type 0 where
  pub engine : List ℕ
  pub name : List ℕ
  pub pdu : List ℕ
  -- the place of the data's first octet
  pub pdu_at : ℕ

-- The content, which stands at this place, is that of a ScopedPDU: the texts of its three elements joined.
pub record ScopedContent (at : ℕ) (content : List ℕ) (s : Contexts) : Type 0 where
  pub engine : List ℕ
  pub is_engine : IsElement 4 s.engine engine
  pub name : List ℕ
  pub is_name : IsElement 4 s.name name
  pub pdu_tag : ℕ
  pub pdu_content : List ℕ
  pub is_pdu : IsElement pdu_tag pdu_content s.pdu
  pub joined : content ≡ engine ++ (name ++ s.pdu)
  pub pdu_place : s.pdu_at ≡ at + (length engine + length name)

-- The text, which stands at this place, is exactly one ScopedPDU.
pub record ScopedText (at : ℕ) (z : List ℕ) (s : Contexts) : Type 0 where
  pub head : List ℕ
  pub content : List ℕ
  pub is_whole : IsHead 48 (length content) head
  pub whole : z ≡ head ++ content
  pub says : ScopedContent (at + length head) content s

-- Priv is clear, and msgData is a ScopedPDU.
abbrev pub HasScoped : List ℕ → Parts → Contexts → Type 0
HasScoped w m s = (m.header.privacy ≡ false) × (m.data_tag ≡ 48)
    × ScopedContent (length w - length m.data_content) m.data_content s

-- Priv is set, and msgData is an OCTET STRING.
abbrev pub HasSealed : Parts → Type 0
HasSealed m = (m.header.privacy ≡ true) × (m.data_tag ≡ 4)

-- The octets begin with a ScopedPDU. What follows it is not looked at.
abbrev pub ScopedFront : List ℕ → Contexts → Type 0
ScopedFront z s = (front : List ℕ) × (rest : List ℕ) × (z ≡ front ++ rest) × ScopedText 0 front s

-- the one reading, of a content that ends at this place
abbrev pub with_pdu : ℕ → List ℕ → List ℕ → List ℕ → Front → Option Contexts
with_pdu end engine name text f =
    if nat_lt 0 (length f.rest) then None
    else Some (record {
      engine = engine;
      name = name;
      pdu = text;
      pdu_at = end - length text;
    })

unfoldable pub contexts_in : ℕ → List ℕ → Option Contexts
contexts_in end octets = do
  engine ← element_in 4 octets
  name ← element_in 4 engine.rest
  f ← front_of name.rest
  with_pdu end engine.content name.content name.rest f

-- a ScopedPDU in front of the octets
unfoldable pub scoped_front_in : List ℕ → Option Contexts
scoped_front_in octets = do
  whole ← element_in 48 octets
  contexts_in (whole.head_size + length whole.content) whole.content

abbrev pub contexts_of : Scoped → Contexts
contexts_of s = record {
  engine = s.engine.now;
  name = s.name.now;
  pdu = s.pdu.now;
  pdu_at = s.data_at;
}

-- ---- its parts by their places

-- The parts follow each other, and end within so many octets.
abbrev pub StandsWithin : ℕ → ScopedPlace → Type 0
StandsWithin size p = (p.engine_at ≤ p.engine_end) × (p.engine_end ≤ p.name_at) × (p.name_at ≤ p.data_at)
    × (p.data_at ≤ p.end) × (p.end ≤ size)

-- what stands at these places of the octets
abbrev pub contexts_there : List ℕ → ScopedPlace → Contexts
contexts_there octets p = record {
  engine = slice_range octets p.engine_at p.engine_end;
  name = slice_range octets p.name_at p.data_at;
  pdu = slice_range octets p.data_at p.end;
  pdu_at = p.data_at;
}

-- ---- the canonical spelling

-- The text is one element.
abbrev pub IsOneElement : List ℕ → Type 0
IsOneElement text = (tag : ℕ) × (content : List ℕ) × IsElement tag content text

unfoldable pub contexts_text : List ℕ → List ℕ → List ℕ → List ℕ
contexts_text engine name pdu = element 4 engine ++ (element 4 name ++ pdu)

-- how many octets that is, where the parts have these sizes
abbrev pub contexts_size : ℕ → ℕ → ℕ → ℕ
contexts_size engine_size name_size pdu_size = (head_size engine_size + engine_size)
    + (head_size name_size + name_size) + pdu_size

unfoldable pub scoped_text : List ℕ → List ℕ → List ℕ → List ℕ
scoped_text engine name pdu = element 48 (contexts_text engine name pdu)

-- what a ScopedPDU that was written says, its content being at this place
abbrev pub contexts_placed : ℕ → List ℕ → List ℕ → List ℕ → Contexts
contexts_placed at engine name pdu = record {
  engine = engine;
  name = name;
  pdu = pdu;
  pdu_at = at + (length (element 4 engine) + length (element 4 name));
}
