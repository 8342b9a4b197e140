-- The layout of a PDU (RFC 3416, section 3).
--
-- `PduText` (RFC 3416, section 3). `PduText z p`: z is exactly one PDU: one of the eight tags, and as its
-- content (`PduContent content p`) three INTEGERs of 32 bits with sign and the SEQUENCE of variable
-- bindings. `IsBinding text v`: a SEQUENCE of an OBJECT IDENTIFIER and one element of any tag;
-- `AreBindings`: the list's content is the bindings' texts joined. `IsReadBinding octets rest b`: the
-- octets are a binding with the name and the value of b, and then the rest. `variables_of`: the bindings
-- that octets begin with. `variable_of` and `bound_variable`: what a binding says, with the arcs of its
-- name and with that name's octets. `CanBeWritten` and `VariableFits`: what can be written. `SaysPdu` has
-- the list in its canonical spelling.
use Rattle.std.specs.Prelude.{◌≡◌, ℕ, ℤ, pos, negsuc, ◌+◌, ◌≤ℤ◌, nat_lt}
use Rattle.std.specs.Prelude.{if◌then◌else◌, List, ◌++◌, length, Option, Some, None}
use Rattle.snmp_ber.specs.Number.{IsInteger32}
use Rattle.snmp_ber.specs.Element.{IsElement}
use Rattle.snmp_ber.specs.Reading.{Front, front_of}
use Rattle.snmp_ber.specs.Spelling.{head_of, head_size, element}
use Rattle.snmp_ber.specs.declared.number.TheConstants.{MAX_INTEGER32}
use Rattle.snmp_message.specs.Steps.{◌>>=◌, when_ended}
use Rattle.snmp_message.specs.Reading.{element_in, signed_in}
use Rattle.snmp_message.specs.Spelling.{signed}
use Rattle.snmp_msg.specs.Variables.{Variable, AreBindings, AllFit, variables_of, after_variables, variables_text}
use Rattle.snmp_msg.specs.PduTypes.{IsPduTag, is_pdu_tag}
use Rattle.snmp_msg.specs.declared.pdu.Pdu.{Pdu}

-- A number of 32 bits with sign.
abbrev pub IsInRange : ℤ → Type 0
IsInRange n = (negsuc MAX_INTEGER32 ≤ℤ n) × (n ≤ℤ pos MAX_INTEGER32)

-- The text is the INTEGER of a number of 32 bits with sign.
pub record IsSigned (n : ℤ) (text : List ℕ) : Type 0 where
  pub content : List ℕ
  pub is_element : IsElement 2 content text
  pub is_integer : IsInteger32 n content
  pub range : IsInRange n

-- What a PDU says.
pub record PduParts : Type 0 where
  pub tag : ℕ
  -- request-id
  pub id : ℤ
  -- error-status, or non-repeaters
  pub second : ℤ
  -- error-index, or max-repetitions
  pub third : ℤ
  -- the content of variable-bindings
  pub list : List ℕ

-- The content of a PDU with these parts: the texts of its four elements joined. The last of them is a
-- SEQUENCE of bindings.
pub record PduContent (content : List ℕ) (p : PduParts) : Type 0 where
  pub id : List ℕ
  pub is_id : IsSigned p.id id
  pub second : List ℕ
  pub is_second : IsSigned p.second second
  pub third : List ℕ
  pub is_third : IsSigned p.third third
  pub list : List ℕ
  pub is_list : IsElement 48 p.list list
  pub variables : List Variable
  pub are_bindings : AreBindings variables p.list
  pub joined : content ≡ id ++ (second ++ (third ++ list))

-- The text is exactly one PDU with these parts.
pub record PduText (z : List ℕ) (p : PduParts) : Type 0 where
  pub tag_allowed : IsPduTag p.tag
  pub content : List ℕ
  pub is_whole : IsElement p.tag content z
  pub says : PduContent content p

-- the numbers of a PDU are of 32 bits with sign
pub record AreInRange (p : PduParts) : Type 0 where
  pub id : IsInRange p.id
  pub second : IsInRange p.second
  pub third : IsInRange p.third

-- ---- the one reading

abbrev pub with_list : ℕ → ℤ → ℤ → ℤ → Front → Option PduParts
with_list tag id second third f =
    if nat_lt 0 (length (after_variables f.content)) then None
    else if nat_lt 0 (length f.rest) then None
    else Some (record { tag = tag; id = id; second = second; third = third; list = f.content })

-- the content of a PDU with this tag
unfoldable pub pdu_content_in : ℕ → List ℕ → Option PduParts
pdu_content_in tag content = do
  id ← signed_in content
  second ← signed_in id.1
  third ← signed_in second.1
  list ← element_in 48 third.1
  with_list tag id.0 second.0 third.0 list

abbrev pub with_pdu_tag : Front → Option Front
with_pdu_tag f = if is_pdu_tag f.tag then Some f else None

unfoldable pub pdu_in : List ℕ → Option PduParts
pdu_in octets = do
  any ← front_of octets
  f ← with_pdu_tag any
  p ← pdu_content_in f.tag f.content
  when_ended f.rest p

abbrev pub pdu_of : Pdu → PduParts
pdu_of p = record {
  tag = p.tag;
  id = p.id;
  second = p.second;
  third = p.third;
  list = p.list.now;
}

-- ---- the canonical spelling

-- the ranges of a PDU's fields, and that its list is one of bindings
pub record PduFits (p : PduParts) : Type 0 where
  pub tag_allowed : IsPduTag p.tag
  pub numbers : AreInRange p
  pub variables : List Variable
  pub are_bindings : AreBindings variables p.list

unfoldable pub pdu_content_text : PduParts → List ℕ
pdu_content_text p = signed p.id ++ (signed p.second ++ (signed p.third ++ element 48 p.list))

unfoldable pub pdu_text : PduParts → List ℕ
pdu_text p = element p.tag (pdu_content_text p)

-- a PDU with these bindings, in their canonical spelling
abbrev pub pdu_with : ℕ → ℤ → ℤ → ℤ → List Variable → PduParts
pdu_with tag id second third vs = record {
  tag = tag;
  id = id;
  second = second;
  third = third;
  list = variables_text vs;
}

-- the same PDU with these bindings, in their canonical spelling
abbrev pub with_variables : PduParts → List Variable → PduParts
with_variables p vs = record p { list = variables_text vs }

-- The text is a PDU that says this, where the list is in its canonical spelling.
pub record SaysPdu (z : List ℕ) (p : PduParts) : Type 0 where
  pub as_read : PduParts
  pub is_pdu : PduText z as_read
  pub same : p ≡ with_variables as_read is_pdu.says.variables

-- The list is the canonical spelling of bindings that fit.
pub record IsSpelled (p : PduParts) : Type 0 where
  pub tag_allowed : IsPduTag p.tag
  pub numbers : AreInRange p
  pub variables : List Variable
  pub fit : AllFit variables
  pub list_is : p.list ≡ variables_text variables

-- the same PDU, with the list in its canonical spelling
abbrev pub respelled : PduParts → PduParts
respelled p = with_variables p (variables_of p.list)

-- how many octets the content of a PDU has whose list has so many
abbrev pub pdu_content_size : PduParts → ℕ → ℕ
pdu_content_size p list_size = length (signed p.id) + length (signed p.second) + length (signed p.third)
    + (head_size list_size + list_size)

-- what stands in a PDU before the content of its list, which has so many octets
unfoldable pub pdu_front_text : PduParts → ℕ → List ℕ
pdu_front_text p list_size = head_of p.tag (pdu_content_size p list_size)
    ++ (signed p.id ++ (signed p.second ++ (signed p.third ++ head_of 48 list_size)))
