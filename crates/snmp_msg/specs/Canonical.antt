-- A message with all its layers, and its canonical spelling.
--
-- `Says` and `IsCanonical`. `Says w m`: w is a message with all its layers m. `IsCanonical w c`: c is the
-- canonical spelling of the message that w is.
use Rattle.std.specs.Prelude.{◌≡◌, ℕ, ◌≤◌, List, [], length}
use Rattle.snmp_message.specs.declared.message.TheConstants.{LARGEST}
use Rattle.snmp_message.specs.declared.header.Header.{Header}
use Rattle.snmp_msg.specs.declared.whole.Layers.{Layers}
use Rattle.snmp_msg.specs.declared.whole.Layer.{Layer}
use Rattle.snmp_msg.specs.declared.whole.Layer.TheVariants as layers
use Rattle.snmp_msg.specs.declared.whole.Measured.{Measured}
use Rattle.snmp_msg.specs.declared.whole.Measured.TheVariants as measures
use Rattle.snmp_msg.specs.declared.pdu.Pdu.{Pdu}
use Rattle.snmp_message.specs.Layout.{Parts, Outer}
use Rattle.snmp_message.specs.Security.{Fields, SecText, FieldsFit, fields_of, security_text}
use Rattle.snmp_message.specs.Scoped.{Contexts, HasScoped, HasSealed, contexts_text}
use Rattle.snmp_msg.specs.Variables.{variables_of, after_variables, variables_text}
use Rattle.snmp_msg.specs.Pdu.{PduParts, SaysPdu, IsSpelled, pdu_of, pdu_text, respelled}
use Rattle.snmp_message.specs.Spelling.{HeaderFits, message_text}

-- What msgData says: sealed octets, or the contexts and the PDU, whose list is in its canonical spelling.
pub data DataParts : Type 0 where
  sealed : List ℕ → DataParts
  plain : List ℕ → List ℕ → PduParts → DataParts

-- What a message says in all its layers.
pub record Whole : Type 0 where
  pub header : Header
  pub security : Fields
  pub contents : DataParts

-- The msgData of the message says this, and is sealed where the priv flag is set.
abbrev pub SaysData : List ℕ → Parts → DataParts → Type 0
SaysData w m (sealed octets) = HasSealed m × (octets ≡ m.data_content)
SaysData w m (plain engine name p) = (s : Contexts) × HasScoped w m s × SaysPdu s.pdu p × (engine ≡ s.engine)
    × (name ≡ s.name)

-- The text is a message with these layers (RFC 3412, section 6; RFC 3414, section 2.4; RFC 3416, section 3).
pub record Says (w : List ℕ) (m : Whole) : Type 0 where
  pub message : Parts
  pub outer : Outer w message
  pub header : m.header ≡ message.header
  pub security : SecText message.security_at message.security m.security
  pub contents : SaysData w message m.contents

abbrev pub data_tag_of : DataParts → ℕ
data_tag_of (sealed octets) = 4
data_tag_of (plain engine name p) = 48

abbrev pub data_content_of : DataParts → List ℕ
data_content_of (sealed octets) = octets
data_content_of (plain engine name p) = contexts_text engine name (pdu_text p)

-- every length the shortest, the ignored flag bits 0, and all fields as they are
unfoldable pub whole_text : Whole → List ℕ
whole_text m = message_text m.header (security_text m.security) (data_tag_of m.contents) (data_content_of m.contents)

-- The second text is the canonical spelling of the message that the first is.
pub record IsCanonical (w c : List ℕ) : Type 0 where
  pub message : Whole
  pub says : Says w message
  pub spelled : c ≡ whole_text message

-- ---- what can be written

abbrev pub DataFits : DataParts → Type 0
DataFits (sealed octets) = Unit {0}
DataFits (plain engine name p) = IsSpelled p

-- the ranges of the fields
pub record WholeFits (m : Whole) : Type 0 where
  pub header : HeaderFits m.header
  pub security : FieldsFit m.security
  pub contents : DataFits m.contents

-- msgData can stand in a datagram
abbrev pub IsShortData : DataParts → Type 0
IsShortData (sealed octets) = length octets ≤ LARGEST
IsShortData (plain engine name p) = (length engine ≤ LARGEST) × (length name ≤ LARGEST)

-- ---- what the values of the code say

abbrev pub data_parts : Layer → DataParts
data_parts (layers.Sealed octets) = sealed octets.now
data_parts (layers.Plain scoped p) = plain scoped.engine.now scoped.name.now (respelled (pdu_of p))

abbrev pub message_with : Header → Fields → DataParts → Whole
message_with header security contents = record { header = header; security = security; contents = contents }

abbrev pub whole_of : Layers → Whole
whole_of m = message_with m.header (fields_of m.security) (data_parts m.contents)

-- the list is one of bindings
abbrev pub IsReadLayer : Layer → Type 0
IsReadLayer (layers.Sealed octets) = Unit {0}
IsReadLayer (layers.Plain scoped p) = after_variables p.list.now ≡ []

-- what is to be written, and that it was measured: it can stand in a datagram, and the size is that of the
-- bindings' canonical spelling
abbrev pub measured_parts : Measured → DataParts
measured_parts (measures.Sealed octets) = sealed octets.now
measured_parts (measures.Plain scoped p size) = plain scoped.engine.now scoped.name.now (respelled (pdu_of p))

-- the list of the PDU is one of bindings, whose canonical spelling has so many octets
pub record IsListSize (p : Pdu) (size : ℕ) : Type 0 where
  pub list : after_variables p.list.now ≡ []
  pub is : size ≡ length (variables_text (variables_of p.list.now))
  pub within : size ≤ LARGEST

abbrev pub IsMeasured : Measured → Type 0
IsMeasured (measures.Sealed octets) = length octets.now ≤ LARGEST
IsMeasured (measures.Plain scoped p size) = (length scoped.engine.now ≤ LARGEST) × (length scoped.name.now ≤ LARGEST)
    × IsListSize p size
