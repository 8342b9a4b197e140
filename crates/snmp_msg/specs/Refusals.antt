-- Why octets are refused: for each call the refusals that it answers, each with its cause.
use Rattle.std.specs.Prelude.{◌<◌, ◌≤◌, ℕ, List, length}
use Rattle.snmp_message.specs.declared.message.TheConstants.{LARGEST}
use Rattle.snmp_message.specs.declared.refusal.Refusal.{Refusal}
use Rattle.snmp_message.specs.declared.refusal.Refusal.TheVariants.{NotMessage, BadVersion, NotSecurity, NotScoped}
use Rattle.snmp_message.specs.declared.refusal.Refusal.TheVariants.{NotPdu, OutOfMemory, TooLarge}
use Rattle.snmp_message.specs.Refusals.{AgreesWithPriv}
use Rattle.snmp_message.specs.Layout.{Parts, Outer, WrongVersion}
use Rattle.snmp_message.specs.Security.{Fields, SecText}
use Rattle.snmp_message.specs.Scoped.{Contexts, HasScoped, HasSealed}
use Rattle.snmp_msg.specs.Pdu.{PduParts, PduText}
use Rattle.snmp_msg.specs.Canonical.{IsCanonical}

-- The refusal is why the text isn't a PDU.
abbrev pub RefusesPdu : List ℕ → Refusal → Type 0
RefusesPdu z NotPdu = (p : PduParts) → PduText z p → ⊥
RefusesPdu z _ = ⊥

-- The refusal is the first of a message's layers, in the order message, msgData, msgSecurityParameters and PDU.
abbrev pub RefusesWhole : List ℕ → Refusal → Type 0
RefusesWhole w BadVersion = WrongVersion w
RefusesWhole w NotMessage = (WrongVersion w → ⊥) × ((m : Parts) → Outer w m → ⊥)
RefusesWhole w NotScoped = (m : Parts) × Outer w m × (HasSealed m → ⊥)
    × ((s : Contexts) → HasScoped w m s → ⊥)
RefusesWhole w NotSecurity = (m : Parts) × Outer w m × AgreesWithPriv w m
    × ((s : Fields) → SecText m.security_at m.security s → ⊥)
RefusesWhole w NotPdu = (m : Parts) × (f : Fields) × (s : Contexts) × Outer w m
    × SecText m.security_at m.security f × HasScoped w m s × ((p : PduParts) → PduText s.pdu p → ⊥)
RefusesWhole w _ = ⊥

-- The refusal is why there is no canonical spelling. Out of memory comes only if there is one that fits a datagram.
abbrev pub RefusesCanonical : List ℕ → Refusal → Type 0
RefusesCanonical w TooLarge = (c : List ℕ) × IsCanonical w c × (LARGEST < length c)
RefusesCanonical w OutOfMemory = (c : List ℕ) × IsCanonical w c × (length c ≤ LARGEST)
RefusesCanonical w refusal = RefusesWhole w refusal
