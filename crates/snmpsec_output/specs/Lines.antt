-- The lines that are printed of a message.
--
-- `message_lines`, `scoped_lines`, `octets_line`. The lines of what a message says. `IsUnnamed`: they are printed so
-- if no names are asked for. No definition says what names follow them else.
use Rattle.std.specs.Prelude.{◌≡◌, ℕ, Bool, true, false, not, ◌&&◌, List, [], ◌∷◌, ◌++◌, codes, decimal}
use Rattle.std.specs.List.{flat_map}
use Rattle.std.specs.Fmt.{signed_decimal}
use Rattle.hex.specs.Hex.{encode_lower}
use Rattle.snmp_ber.specs.Oid.{dotted}
use Rattle.snmp_message.specs.declared.header.Header.{Header}
use Rattle.snmp_message.specs.Security.{Fields}
use Rattle.snmp_msg.specs.Variables.{Variable, variables_of}
use Rattle.snmp_msg.specs.Pdu.{PduParts}

-- octets in lower-case hex, or `-` where there is none
abbrev pub octets_text : List ℕ → List ℕ
octets_text [] = codes "-"
octets_text (x ∷ xs) = encode_lower (x ∷ xs)

abbrev pub octets_line : List ℕ → List ℕ → List ℕ
octets_line name octets = name ++ (codes " " ++ (octets_text octets ++ codes "\n"))

-- ---- msgGlobalData

abbrev pub flag_text : Bool → List ℕ → List ℕ
flag_text true word = word
flag_text false word = []

abbrev pub has_no_flag : Header → Bool
has_no_flag h = not h.auth && not h.privacy && not h.reportable

-- the names of the flags that are set, or `-`
abbrev pub flags_line : Header → List ℕ
flags_line h =
    codes "flags" ++ (flag_text h.auth (codes " auth")
    ++ (flag_text h.privacy (codes " priv") ++ (flag_text h.reportable (codes " reportable")
    ++ (flag_text (has_no_flag h) (codes " -") ++ codes "\n"))))

abbrev pub header_lines : Header → List ℕ
header_lines h = codes "id "
    ++ (decimal h.id ++ (codes "\nmax-size " ++ (decimal h.max_size ++ (codes "\n" ++ flags_line h))))

-- ---- msgSecurityParameters

abbrev pub security_lines : Fields → List ℕ
security_lines s =
    octets_line (codes "engine") s.engine
    ++ (codes "boots " ++ (decimal s.boots ++ (codes "\ntime " ++ (decimal s.time ++ (codes "\n"
    ++ (octets_line (codes "user") s.user
    ++ (octets_line (codes "auth") s.auth ++ octets_line (codes "privacy") s.salt)))))))

abbrev pub message_lines : Header → Fields → List ℕ
message_lines h s = header_lines h ++ security_lines s

-- ---- the ScopedPDU

-- the name of a variable, and the tag and the content of its value
abbrev pub binding_line : Variable → List ℕ
binding_line v =
    codes "binding " ++ (dotted v.name
    ++ (codes " " ++ (encode_lower (v.tag ∷ []) ++ (codes " " ++ (octets_text v.content ++ codes "\n")))))

-- the tag of a PDU, and its three numbers
abbrev pub pdu_line : PduParts → List ℕ
pdu_line p =
    codes "pdu " ++ (encode_lower (p.tag ∷ [])
    ++ (codes " " ++ (signed_decimal p.id ++ (codes " " ++ (signed_decimal p.second
    ++ (codes " " ++ (signed_decimal p.third ++ codes "\n")))))))

-- the contexts, the PDU, and each of its bindings
abbrev pub scoped_lines : List ℕ → List ℕ → PduParts → List ℕ
scoped_lines engine name p =
    octets_line (codes "context-engine") engine
    ++ (octets_line (codes "context") name ++ (pdu_line p ++ flat_map binding_line (variables_of p.list)))

-- ---- with names

-- The text is printed as it is, if no names are asked for.
abbrev pub IsUnnamed : Bool → List ℕ → List ℕ → Type 0
IsUnnamed names text printed = names ≡ false → printed ≡ text
