-- The layouts of a message, as relations on whole texts (RFC 3412, section 6).
--
-- `Outer` (RFC 3412, section 6). `Outer w m`: w is an SNMPv3Message of version 3 whose header, content of
-- msgSecurityParameters, tag and content of msgData, and the places of both, are m. `WrongVersion w`: w
-- begins with a SEQUENCE whose content begins with an INTEGER other than 3.
--
-- Elements are looked for depth first and from left to right. Where an element has to be and none can be
-- read within its parent, or its tag or value isn't allowed, the place is where its first octet is or would
-- be. Octets after the last child of an element are a fault at the first of them; those after the whole
-- message are found last. Places count from 0 in the datagram, and for a sealed message's BadScoped and
-- BadPdu in what was decrypted.
use Rattle.std.specs.Prelude.{◌≡◌, ◌≢◌, ◌⊎◌, ℕ, ℤ, pos, ◌+◌, ◌≤◌, Bool, not, nat_eq, List, [], ◌∷◌, ◌++◌, length}
use Rattle.std.specs.Prelude.{bit_and}
use Rattle.snmp_ber.specs.Number.{IsInteger32}
use Rattle.snmp_ber.specs.Element.{IsHead, IsElement, Begins}
use Rattle.snmp_ber.specs.declared.number.TheConstants.{MAX_INTEGER32}
use Rattle.snmp_message.specs.declared.header.Header.{Header}

-- The text is an INTEGER with this number, which is from the least that is allowed here to 2147483647.
pub record IsNumber (least n : ℕ) (text : List ℕ) : Type 0 where
  pub content : List ℕ
  pub is_element : IsElement 2 content text
  pub is_integer : IsInteger32 (pos n) content
  pub at_least : least ≤ n
  pub at_most : n ≤ MAX_INTEGER32

abbrev pub has_bit : ℕ → ℕ → Bool
has_bit octet bit = not (nat_eq (bit_and octet bit) 0)

-- what the octet of msgFlags says; its other bits are ignored
pub record AreFlags (h : Header) (octet : ℕ) : Type 0 where
  pub auth : h.auth ≡ has_bit octet 1
  pub privacy : h.privacy ≡ has_bit octet 2
  pub reportable : h.reportable ≡ has_bit octet 4

-- The content of msgGlobalData is the texts of its four elements joined.
pub record IsGlobal (h : Header) (content : List ℕ) : Type 0 where
  pub id : List ℕ
  pub is_id : IsNumber 0 h.id id
  pub max_size : List ℕ
  pub is_max_size : IsNumber 484 h.max_size max_size
  pub flags : List ℕ
  pub octet : ℕ
  pub is_flags : IsElement 4 (octet ∷ []) flags
  pub are_flags : AreFlags h octet
  pub model : List ℕ
  pub is_model : IsNumber 1 h.model model
  pub joined : content ≡ id ++ (max_size ++ (flags ++ model))

-- What the outer layout of a message says.
pub record Parts : Type 0 where
  pub header : Header
  -- the content of msgSecurityParameters
  pub security : List ℕ
  -- the tag and the content of msgData
  pub data_tag : ℕ
  pub data_content : List ℕ
  -- the places of the content of msgSecurityParameters and of msgData
  pub security_at : ℕ
  pub data_at : ℕ

-- The text is an SNMPv3Message of version 3 with these parts: an element whose content is the texts of its
-- four elements joined.
pub record Outer (w : List ℕ) (m : Parts) : Type 0 where
  pub version : List ℕ
  pub is_version : IsNumber 0 3 version
  pub global : List ℕ
  pub global_content : List ℕ
  pub is_global : IsElement 48 global_content global
  pub says : IsGlobal m.header global_content
  pub security_head : List ℕ
  pub is_security : IsHead 4 (length m.security) security_head
  pub data_text : List ℕ
  pub is_data : IsElement m.data_tag m.data_content data_text
  pub tag_allowed : (m.data_tag ≡ 48) ⊎ (m.data_tag ≡ 4)
  pub head : List ℕ
  pub content : List ℕ
  pub is_message : IsHead 48 (length content) head
  pub joined : content ≡ version ++ (global ++ (security_head ++ (m.security ++ data_text)))
  pub whole : w ≡ head ++ content
  pub security_place : m.security_at ≡ length head + (length version + (length global + length security_head))
  pub data_place : m.data_at ≡ m.security_at + length m.security

-- The text begins with a SEQUENCE whose content begins with an INTEGER other than 3.
pub record WrongVersion (w : List ℕ) : Type 0 where
  pub head : List ℕ
  pub content : List ℕ
  pub after : List ℕ
  pub is_message : Begins w 48 head content after
  pub version_head : List ℕ
  pub version_content : List ℕ
  pub others : List ℕ
  pub is_version : Begins content 2 version_head version_content others
  pub number : ℤ
  pub is_number : IsInteger32 number version_content
  pub other : number ≢ pos 3
