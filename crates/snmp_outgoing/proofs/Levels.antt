-- Levels and their flags, and the length of a ScopedPDU.
use Rattle.std.proofs.Common.{◌≡◌, ℕ, ◌≤◌, List, ◌++◌, Bool, true, length, refl, arith}
use Rattle.std.proofs.lemmas.List.{length-append}
use Rattle.snmp_ber.specs.declared.level.Level.{Level}
use Rattle.snmp_ber.specs.declared.level.Level.TheVariants.{NoAuthNoPriv, AuthNoPriv, AuthPriv}
use Rattle.snmp_ber.specs.Spelling.{element}
use Rattle.snmp_message.specs.Level.{level_of}
use Rattle.snmp_message.specs.Scoped.{contexts_text, scoped_text}
use Rattle.snmp_message.proofs.Lengths.{length_of_three}
use Rattle.snmp_outgoing.specs.Bodies.{has_auth, has_privacy, header_at}

pub flags_at : (l : Level) → has_privacy l ≡ true → has_auth l ≡ true
flags_at NoAuthNoPriv e = absurd cc
flags_at AuthNoPriv e = refl
flags_at AuthPriv e = refl

pub level_at : (l : Level) (id : ℕ) (r : Bool) → level_of (header_at l id r) ≡ l
level_at NoAuthNoPriv id r = refl
level_at AuthNoPriv id r = refl
level_at AuthPriv id r = refl

-- an element is no shorter than its content
pub element_longer : (tag : ℕ) (content : List ℕ) → length content ≤ length (element tag content)
element_longer tag content = rw length-append (omega arith)

-- a ScopedPDU is no shorter than its data
pub scoped_longer : (engine name pdu : List ℕ) → length pdu ≤ length (scoped_text engine name pdu)
unfolding scoped_text contexts_text
scoped_longer engine name pdu =
    let whole = element_longer 48 (element 4 engine ++ (element 4 name ++ pdu)) in
    let joined = length_of_three (element 4 engine) (element 4 name) pdu in
    omega (arith, whole, joined)
