-- The values of variables, by their tags (RFC 3416, section 3; RFC 2578, section 7.1).
--
-- `IsValueOf` (RFC 2578, section 7.1, RFC 3416, section 3). The content is of a value with the tag:
-- `syntax_of` is the syntax of a tag, and `IsSpelledAs` says what its contents are.
use Rattle.std.specs.Prelude.{◌==◌, if◌then◌else◌, ◌≡◌, ◌≤◌, ℕ, ℤ, List, length, Option, Some, None, MatchOption}
use Rattle.snmp_ber.specs.Number.{IsInteger32, IsUnsigned}
use Rattle.snmp_ber.specs.Oid.{IsIdentifier}
use Rattle.snmp_msg.specs.declared.value.Syntax.{Syntax}
use Rattle.snmp_msg.specs.declared.value.Syntax.TheVariants.{Integer32, OctetString, Null, ObjectIdentifier}
use Rattle.snmp_msg.specs.declared.value.Syntax.TheVariants.{IpAddress, Counter32, Unsigned32, TimeTicks, Opaque}
use Rattle.snmp_msg.specs.declared.value.Syntax.TheVariants.{Counter64, NoSuchObject, NoSuchInstance, EndOfMibView}

-- the syntax of a tag
abbrev pub syntax_of : ℕ → Option Syntax
syntax_of tag =
    if tag == 2 then Some Integer32 else
    if tag == 4 then Some OctetString else
    if tag == 5 then Some Null else
    if tag == 6 then Some ObjectIdentifier else
    if tag == 64 then Some IpAddress else
    if tag == 65 then Some Counter32 else
    if tag == 66 then Some Unsigned32 else
    if tag == 67 then Some TimeTicks else
    if tag == 68 then Some Opaque else
    if tag == 70 then Some Counter64 else
    if tag == 128 then Some NoSuchObject else
    if tag == 129 then Some NoSuchInstance else
    if tag == 130 then Some EndOfMibView else
    None

-- the content of a number of 32 bits without sign
abbrev pub IsNumber32 : List ℕ → Type 0
IsNumber32 content = (n : ℕ) × IsUnsigned 4 n content

-- The content is of a value of the syntax.
abbrev pub IsSpelledAs : Syntax → List ℕ → Type 0
IsSpelledAs Integer32 content = (n : ℤ) × IsInteger32 n content
IsSpelledAs OctetString content = length content ≤ 65535
IsSpelledAs Null content = length content ≡ 0
IsSpelledAs ObjectIdentifier content = (arcs : List ℕ) × IsIdentifier arcs content
IsSpelledAs IpAddress content = length content ≡ 4
IsSpelledAs Counter32 content = IsNumber32 content
IsSpelledAs Unsigned32 content = IsNumber32 content
IsSpelledAs TimeTicks content = IsNumber32 content
IsSpelledAs Opaque content = length content ≤ 65535
IsSpelledAs Counter64 content = (n : ℕ) × IsUnsigned 8 n content
IsSpelledAs NoSuchObject content = length content ≡ 0
IsSpelledAs NoSuchInstance content = length content ≡ 0
IsSpelledAs EndOfMibView content = length content ≡ 0

-- The tag is of a syntax, and the content of a value of that.
abbrev pub IsValueOf : ℕ → List ℕ → Type 0
IsValueOf tag content = MatchOption (syntax_of tag) ⊥ (λ syntax. IsSpelledAs syntax content)
