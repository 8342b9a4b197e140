-- The layout of a message with a community, as relations on whole texts (RFC 1157, section 4; RFC 1901,
-- section 3).
--
-- `IsMessage w m`: w is exactly one message whose version, community and PDU, with the place of the PDU, are
-- m. `OtherVersion w`: w begins with a SEQUENCE whose content begins with an INTEGER that is the number of
-- neither version, as an SNMPv3Message does.
--
-- The data is one element of any tag: both RFCs say ANY. Places count from 0 in the datagram.
use Rattle.std.specs.Prelude.{◌≡◌, ◌≢◌, ℕ, ℤ, pos, ◌+◌, List, ◌++◌, length}
use Rattle.snmp_ber.specs.Number.{IsInteger32}
use Rattle.snmp_ber.specs.Element.{IsHead, IsElement, Begins}
use Rattle.snmp_message.specs.Layout.{IsNumber}
use Rattle.snmp_message.specs.declared.field.TheConstants.{INTEGER, OCTET_STRING, SEQUENCE}
use Rattle.snmp_community.specs.Versions.{version_number}
use Rattle.snmp_community.specs.declared.version.Version.{Version}

-- What a message says. Its PDU is a whole element.
pub record Parts : Type 0 where
  pub version : Version
  pub community : List ℕ
  pub pdu : List ℕ
  -- the place of the PDU's first octet
  pub pdu_at : ℕ

-- The text is the INTEGER of this version.
abbrev pub IsVersion : Version → List ℕ → Type 0
IsVersion version text = IsNumber 0 (version_number version) text

-- The text is exactly one message with these parts: a SEQUENCE whose content is the texts of its three
-- elements joined.
pub record IsMessage (w : List ℕ) (m : Parts) : Type 0 where
  pub version : List ℕ
  pub is_version : IsVersion m.version version
  pub community : List ℕ
  pub is_community : IsElement OCTET_STRING m.community community
  pub pdu_tag : ℕ
  pub pdu_content : List ℕ
  pub is_pdu : IsElement pdu_tag pdu_content m.pdu
  pub head : List ℕ
  pub content : List ℕ
  pub is_message : IsHead SEQUENCE (length content) head
  pub joined : content ≡ version ++ (community ++ m.pdu)
  pub whole : w ≡ head ++ content
  pub pdu_place : m.pdu_at ≡ length head + (length version + length community)

-- The text begins with a SEQUENCE whose content begins with an INTEGER of neither version.
pub record OtherVersion (w : List ℕ) : Type 0 where
  pub head : List ℕ
  pub content : List ℕ
  pub after : List ℕ
  pub is_message : Begins w SEQUENCE head content after
  pub version_head : List ℕ
  pub version_content : List ℕ
  pub others : List ℕ
  pub is_version : Begins content INTEGER version_head version_content others
  pub number : ℤ
  pub is_number : IsInteger32 number version_content
  pub other : (v : Version) → number ≢ pos (version_number v)
