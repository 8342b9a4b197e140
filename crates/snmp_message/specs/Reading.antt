-- The one reading of a message, from left to right.
use Rattle.std.specs.Prelude.{ℕ, ℤ, pos, negsuc, ◌+◌, ◌-◌, ◌||◌, nat_lt, ◌==◌, if◌then◌else◌, List, [], ◌∷◌, length}
use Rattle.std.specs.Prelude.{Option, Some, None}
use Rattle.snmp_ber.specs.Reading.{Front, front_of, integer32_of}
use Rattle.snmp_ber.specs.declared.number.TheConstants.{MAX_INTEGER32}
use Rattle.snmp_message.specs.Steps.{◌>>=◌}
use Rattle.snmp_message.specs.Layout.{Parts, has_bit}
use Rattle.snmp_message.specs.declared.header.Header.{Header}

abbrev pub with_tag : ℕ → Front → Option Front
with_tag tag f = if f.tag == tag then Some f else None

-- an element with this tag, and the octets after it
unfoldable pub element_in : ℕ → List ℕ → Option Front
element_in tag octets = front_of octets >>= with_tag tag

abbrev pub from_least : ℕ → ℤ → Option ℕ
from_least least (pos n) = if nat_lt n least || nat_lt MAX_INTEGER32 n then None else Some n
from_least least (negsuc n) = None

-- an INTEGER that is not below the least, and the octets after it
unfoldable pub number_in : ℕ → List ℕ → Option (ℕ × List ℕ)
number_in least octets = do
  f ← element_in 2 octets
  z ← integer32_of f.content
  n ← from_least least z
  Some (n, f.rest)

-- an INTEGER of 32 bits with sign, and the octets after it
unfoldable pub signed_in : List ℕ → Option (ℤ × List ℕ)
signed_in octets = do
  f ← element_in 2 octets
  z ← integer32_of f.content
  Some (z, f.rest)

abbrev pub flags_in : List ℕ → Option ℕ
flags_in [] = None
flags_in (octet ∷ []) = Some octet
flags_in (octet ∷ second ∷ octets) = None

abbrev pub with_model : ℕ → ℕ → ℕ → (ℕ × List ℕ) → Option Header
with_model id max_size octet model =
    if nat_lt 0 (length model.1) then None
    else Some (record {
      id = id;
      max_size = max_size;
      auth = has_bit octet 1;
      privacy = has_bit octet 2;
      reportable = has_bit octet 4;
      model = model.0;
    })

unfoldable pub header_of : List ℕ → Option Header
header_of content = do
  id ← number_in 0 content
  max_size ← number_in 484 id.1
  flags ← element_in 4 max_size.1
  octet ← flags_in flags.content
  model ← number_in 1 flags.rest
  with_model id.0 max_size.0 octet model

-- the version, what the message has left after it, and how many octets follow the message
unfoldable pub version_in : List ℕ → Option (ℤ × List ℕ × List ℕ)
version_in w = do
  whole ← element_in 48 w
  version ← element_in 2 whole.content
  z ← integer32_of version.content
  Some (z, version.rest, whole.rest)

abbrev pub with_data : ℕ → Header → List ℕ → Front → Option Parts
with_data size h security f =
    if f.tag == 48 || f.tag == 4
    then (if nat_lt 0 (length f.rest) then None
    else Some (record {
      header = h;
      security = security;
      data_tag = f.tag;
      data_content = f.content;
      security_at = size - (f.head_size + length f.content) - length security;
      data_at = size - (f.head_size + length f.content);
    }))
    else None

-- what follows the version, in a message of this size
unfoldable pub after_version : ℕ → List ℕ → Option Parts
after_version size octets = do
  global ← element_in 48 octets
  h ← header_of global.content
  security ← element_in 4 global.rest
  f ← front_of security.rest
  with_data size h security.content f
