-- Variable bindings (RFC 3416, section 3).
use Rattle.std.specs.Prelude.{◌≡◌, ℕ, zero, suc, nat_lt, if◌then◌else◌, List, [], ◌∷◌, ◌++◌, length, Option, Some, None}
use Rattle.std.specs.List.{AllByRecursion, flat_map}
use Rattle.snmp_ber.specs.Element.{IsTag, IsElement}
use Rattle.snmp_ber.specs.Oid.{AreArcs, IsObjectId, IsIdentifier, identifier_in, identifier}
use Rattle.snmp_ber.specs.Reading.{Front, front_of}
use Rattle.snmp_ber.specs.Spelling.{element}
use Rattle.snmp_message.specs.Steps.{◌>>=◌}
use Rattle.snmp_message.specs.Reading.{element_in}
use Rattle.snmp_msg.specs.declared.binding.Binding.{Binding}
use Rattle.snmp_msg.specs.declared.binding.Bindings.{Bindings}
use Rattle.snmp_msg.specs.declared.binding.VarBind.{VarBind}
use Rattle.snmp_msg.specs.declared.variable.VariableBinding.{VariableBinding}
use Rattle.snmp_msg.specs.declared.variable.VariableBindings.{VariableBindings}

-- What a VarBind says: the arcs of its name, and the tag and the content of its value.
pub record Variable : Type 0 where
  pub name : List ℕ
  pub tag : ℕ
  pub content : List ℕ

-- The text is exactly one VarBind: a SEQUENCE whose content is the texts of an OBJECT IDENTIFIER and of one
-- element of any tag, joined.
pub record IsBinding (text : List ℕ) (v : Variable) : Type 0 where
  pub name : List ℕ
  pub name_content : List ℕ
  pub is_name : IsElement 6 name_content name
  pub is_identifier : IsIdentifier v.name name_content
  pub value : List ℕ
  pub is_value : IsElement v.tag v.content value
  pub content : List ℕ
  pub is_whole : IsElement 48 content text
  pub joined : content ≡ name ++ value

-- The octets are the texts of these bindings, joined.
abbrev pub AreBindings : List Variable → List ℕ → Type 0
AreBindings [] octets = octets ≡ []
AreBindings (v ∷ vs) octets = (text : List ℕ) × (rest : List ℕ) × IsBinding text v × (octets ≡ text ++ rest)
    × AreBindings vs rest

-- ---- the one reading

abbrev pub with_value : List ℕ → List ℕ → Front → Option (Variable × List ℕ)
with_value name rest f =
    if nat_lt 0 (length f.rest) then None
    else Some (record { name = name; tag = f.tag; content = f.content }, rest)

-- a binding that the octets begin with, and the octets after it
unfoldable pub binding_in : List ℕ → Option (Variable × List ℕ)
binding_in octets = do
  whole ← element_in 48 octets
  name ← element_in 6 whole.content
  arcs ← identifier_in name.content
  f ← front_of name.rest
  with_value arcs whole.rest f

abbrev pub with_binding : (List ℕ → List Variable × List ℕ) → List ℕ → Option (Variable × List ℕ)
    → List Variable × List ℕ
with_binding taken octets None = ([], octets)
with_binding taken octets (Some x) = (x.0 ∷ (taken x.1).0, (taken x.1).1)

-- the bindings that the octets begin with, at most so many, and the octets after them
unfoldable pub bindings_taken : ℕ → List ℕ → List Variable × List ℕ
bindings_taken zero octets = ([], octets)
bindings_taken (suc n) octets = with_binding (bindings_taken n) octets (binding_in octets)

-- the bindings that the octets begin with
unfoldable pub variables_of : List ℕ → List Variable
variables_of octets = (bindings_taken (length octets) octets).0

-- the octets after them, at which no binding begins
unfoldable pub after_variables : List ℕ → List ℕ
after_variables octets = (bindings_taken (length octets) octets).1

-- ---- what the values of the code say

-- the same, of a VarBind with its places, whose name has these arcs, and the octets after it
abbrev pub variable_with : VarBind → List ℕ → List ℕ → Variable × List ℕ
variable_with b rest arcs = (record { name = arcs; tag = b.value.tag; content = b.value.content.now }, rest)

-- The octets are a VarBind, of which this is said, and then the rest.
pub record IsReadBinding (octets rest : List ℕ) (b : VarBind) : Type 0 where
  pub says : Variable
  pub text : List ℕ
  pub is_binding : IsBinding text says
  pub parts : octets ≡ text ++ rest
  pub name : IsIdentifier says.name b.name.content.now
  pub tag : says.tag ≡ b.value.tag
  pub content : says.content ≡ b.value.content.now

abbrev pub variable_of : Binding → Variable
variable_of b = record { name = b.name; tag = b.tag; content = b.content.now }

-- the same, of a binding with its name in octets
abbrev pub bound_variable : VariableBinding → Variable
bound_variable b = record { name = b.name; tag = b.tag; content = b.content.now }

-- the bindings that an iterator is still to give
abbrev pub variables_left : VariableBindings → List Variable
variables_left s = variables_of s.rest.now

abbrev pub bindings_left : Bindings → List Variable
bindings_left s = variables_left s.variables

-- ---- the canonical spelling

-- An identifier can be spelled, and an element can have this tag.
pub record CanBeWritten (v : Variable) : Type 0 where
  pub object_id : IsObjectId v.name
  pub is_tag : IsTag v.tag

-- The same, of a name that is an identifier's.
pub record VariableFits (v : Variable) : Type 0 where
  pub arcs : AreArcs v.name
  pub object_id : IsObjectId v.name
  pub is_tag : IsTag v.tag

abbrev pub AllFit : List Variable → Type 0
AllFit vs = AllByRecursion VariableFits vs

-- the content of a VarBind
unfoldable pub variable_content : Variable → List ℕ
variable_content v = element 6 (identifier v.name) ++ element v.tag v.content

unfoldable pub variable_text : Variable → List ℕ
variable_text v = element 48 (variable_content v)

-- the content of variable-bindings
unfoldable pub variables_text : List Variable → List ℕ
variables_text vs = flat_map variable_text vs
