-- What `snmpsec show` prints, and why it refuses a datagram.
--
-- `Shows`: the text is the lines of all layers, and of the canonical spelling. `Merge`: what is printed for files of
-- saved clocks. `Refusals`: refusals as the program prints them.
use Rattle.std.specs.Prelude.{◌≡◌, ◌≢◌, ⊤, Bool, true, false, ℕ, ◌<◌, ◌⊎◌, List, [], ◌++◌, length, codes, Ok, IsErr}
use Rattle.snmp_message.specs.declared.header.TheConstants.{USER_BASED}
use Rattle.snmp_message.specs.declared.message.TheConstants.{LARGEST}
use Rattle.hex.specs.Hex.{encode_lower, decode_of}
use Rattle.snmp_message.specs.Layout.{Parts, Outer}
use Rattle.snmp_msg.specs.Canonical.{IsCanonical, Says, whole_of, whole_text}
use Rattle.snmp_message.specs.Security.{fields_of}
use Rattle.snmp_msg.specs.Pdu.{pdu_of}
use Rattle.snmp_msg.specs.declared.whole.Layers.{Layers}
use Rattle.snmp_msg.specs.declared.whole.Layer.{Layer}
use Rattle.snmp_msg.specs.declared.whole.Layer.TheVariants as layers
use Rattle.snmpsec_output.specs.Lines.{IsUnnamed, octets_line, message_lines, scoped_lines}
use Rattle.snmp_msg.specs.Refusals.{RefusesWhole}
use Rattle.snmp_message.specs.declared.refusal.Refusal.{Refusal}
use Rattle.snmp_message.specs.declared.refusal.Refusal.TheVariants as refusals
use Rattle.snmp_message.specs.declared.refused_at.RefusedAt.{RefusedAt}
use Rattle.snmpsec_output.specs.Refusals.{refused_line}
use Rattle.snmpsec_output.specs.Questions.{Printed}

-- The datagram is a message of the user-based security model, with auth where it has priv.
pub record IsUsmMessage (datagram : List ℕ) : Type 0 where
  pub message : Parts
  pub outer : Outer datagram message
  pub model : message.header.model ≡ USER_BASED
  pub flags : message.header.privacy ≡ true → message.header.auth ≡ true

-- the lines of msgData: sealed octets, or the contexts and the PDU
abbrev pub contents_lines : Layer → List ℕ
contents_lines (layers.Sealed octets) = octets_line (codes "sealed") octets.now
contents_lines (layers.Plain scoped p) = scoped_lines scoped.engine.now scoped.name.now (pdu_of p)

-- the lines of all layers, and of the canonical spelling
abbrev pub shown_text : Layers → List ℕ
shown_text m =
    message_lines m.header (fields_of m.security)
    ++ (contents_lines m.contents ++ (codes "canonical " ++ (encode_lower (whole_text (whole_of m)) ++ codes "\n")))

-- The datagram is such a message, and the text is the lines of what it says and of its canonical spelling, if no names
-- are asked for.
pub record Shows (names : Bool) (datagram text : List ℕ) : Type 0 where
  pub usm : IsUsmMessage datagram
  pub layers : Layers
  pub says : Says datagram (whole_of layers)
  pub lines : IsUnnamed names (shown_text layers) text

-- The refusal is why the datagram isn't shown.
abbrev pub RefusesShow : List ℕ → Refusal → Type 0
RefusesShow w refusals.UnknownModel = (m : Parts) × Outer w m × (m.header.model ≢ USER_BASED)
RefusesShow w refusals.InvalidFlags = (m : Parts) × Outer w m × (m.header.privacy ≡ true) × (m.header.auth ≡ false)
RefusesShow w refusals.TooLarge = (c : List ℕ) × IsCanonical w c × (LARGEST < length c)
RefusesShow w refusals.OutOfMemory = ⊤
RefusesShow w refusal = RefusesWhole w refusal

-- The word isn't one or more pairs of hex digits.
abbrev pub IsNoHex : List ℕ → Type 0
IsNoHex digits = (digits ≡ []) ⊎ IsErr (decode_of digits)

-- ---- what is printed

-- The lines of the datagram are printed.
pub record Shown (names : Bool) (w : List ℕ) (printed : Printed) : Type 0 where
  pub shows : Shows names w printed.out
  pub err : printed.err ≡ []
  pub status : printed.status ≡ 0

-- The refusal of the datagram is printed, and it isn't OutOfMemory.
pub record TellsRefusal (w : List ℕ) (printed : Printed) : Type 0 where
  pub told : RefusedAt
  pub cause : RefusesShow w told.refusal
  pub no_memory : told.refusal ≢ refusals.OutOfMemory
  pub out : printed.out ≡ refused_line told
  pub err : printed.err ≡ []
  pub status : printed.status ≡ 1

-- The word is reported.
pub record TellsNoHex (digits : List ℕ) (printed : Printed) : Type 0 where
  pub none : IsNoHex digits
  pub out : printed.out ≡ []
  pub err : printed.err ≡ codes "snmpsec: " ++ (codes "bad word HEX" ++ codes "\n")
  pub status : printed.status ≡ 2

-- The datagram is shown, or its refusal is printed.
abbrev pub ShowsDatagram : Bool → List ℕ → Printed → Type 0
ShowsDatagram names w printed = Shown names w printed ⊎ TellsRefusal w printed

-- The datagram that the word's digits write is shown, or its refusal is printed.
pub record ShowsWord (names : Bool) (digits : List ℕ) (printed : Printed) : Type 0 where
  pub datagram : List ℕ
  pub decoded : decode_of digits ≡ Ok datagram
  pub told : ShowsDatagram names datagram printed

-- A word out of its form is reported first.
abbrev pub ShowsText : Bool → List ℕ → Printed → Type 0
ShowsText names digits printed = TellsNoHex digits printed ⊎ ShowsWord names digits printed
