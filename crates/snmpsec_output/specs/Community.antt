-- What `snmpsec show --community` makes of a datagram.
--
-- `ShowsAnyVersion names w printed`. A message of version-1 or SNMPv2c (RFC 1157, section 4; RFC 1901, section
-- 3) with a PDU is shown, with status 0. Of a datagram of another version it is printed what `show` prints without the
-- option, and of any other its refusal. In which words a message is shown isn't defined.
use Rattle.std.specs.Prelude.{◌≡◌, ◌≢◌, ◌⊎◌, ℕ, Bool, List, [], Some, Ok}
use Rattle.hex.specs.Hex.{decode_of}
use Rattle.snmp_message.specs.declared.refusal.Refusal.TheVariants as refusals
use Rattle.snmp_message.specs.declared.refused_at.RefusedAt.{RefusedAt}
use Rattle.snmp_msg.specs.Pdu.{PduParts, PduText}
use Rattle.snmp_msg.specs.Refusals.{RefusesPdu}
use Rattle.snmp_community.specs.Layout.{Parts, IsMessage, OtherVersion}
use Rattle.snmp_community.specs.Faults.{FaultsAt}
use Rattle.snmpsec_output.specs.Questions.{Printed}
use Rattle.snmpsec_output.specs.Refusals.{refused_line}
use Rattle.snmpsec_output.specs.Show.{ShowsDatagram, TellsNoHex}

-- ---- one datagram

-- The datagram is a message with a community and a PDU.
pub record SaysCommunity (w : List ℕ) : Type 0 where
  pub message : Parts
  pub is_message : IsMessage w message
  pub pdu : PduParts
  pub is_pdu : PduText message.pdu pdu

-- The datagram is of no other version, and it isn't a message at this place; or its data is no PDU.
abbrev pub RefusesCommunity : List ℕ → RefusedAt → Type 0
RefusesCommunity w refused =
    ((OtherVersion w → ⊥) × ((at : ℕ) × FaultsAt w at
    × (refused.refusal ≡ refusals.NotMessage) × (refused.at ≡ Some at)))
    ⊎ ((m : Parts) × IsMessage w m × RefusesPdu m.pdu refused.refusal)

-- A message with a community is shown.
pub record PrintsCommunity (w : List ℕ) (printed : Printed) : Type 0 where
  pub says : SaysCommunity w
  pub some : printed.out ≢ []
  pub err : printed.err ≡ []
  pub status : printed.status ≡ 0

-- The refusal is printed.
pub record PrintsRefusal (w : List ℕ) (printed : Printed) : Type 0 where
  pub refused : RefusedAt
  pub cause : RefusesCommunity w refused
  pub out : printed.out ≡ refused_line refused
  pub err : printed.err ≡ []
  pub status : printed.status ≡ 1

abbrev pub ShowsAnyVersion : Bool → List ℕ → Printed → Type 0
ShowsAnyVersion names w printed = PrintsCommunity w printed
    ⊎ (PrintsRefusal w printed ⊎ (OtherVersion w × ShowsDatagram names w printed))

-- ---- the word

-- The datagram that the word's digits write is shown.
pub record ShowsWordOfAny (names : Bool) (digits : List ℕ) (printed : Printed) : Type 0 where
  pub datagram : List ℕ
  pub decoded : decode_of digits ≡ Ok datagram
  pub shows : ShowsAnyVersion names datagram printed

-- A word out of its form is refused first.
abbrev pub ShowsTextOfAny : Bool → List ℕ → Printed → Type 0
ShowsTextOfAny names digits printed = TellsNoHex digits printed ⊎ ShowsWordOfAny names digits printed
