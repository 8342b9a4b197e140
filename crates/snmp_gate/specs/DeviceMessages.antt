-- Messages between the gateway and its devices (RFC 1901, section 3; RFC 3416, section 3).
--
-- `IsCommunityPdu`: a message of SNMPv2c with this community and this PDU. `IsDeviceAnswer`: its PDU is a Response.
-- `IsRequest`: its PDU is a request for these variables, with these numbers. `IsAsk`: error-status and error-index are
-- 0. `IsRequestFor`: the PDU asks this. `request_text`, `ask_text`: such a message in its canonical spelling.
use Rattle.std.specs.Prelude.{◌≡◌, ℕ, ℤ, pos, List}
use Rattle.snmp_msg.specs.Pdu.{PduParts, PduText, pdu_text, pdu_with}
use Rattle.snmp_msg.specs.PduTypes.{pdu_tag}
use Rattle.snmp_msg.specs.Variables.{AreBindings, Variable}
use Rattle.snmp_msg.specs.declared.pdu_type.PduType.{PduType}
use Rattle.snmp_msg.specs.declared.pdu_type.PduType.TheVariants.{Response}
use Rattle.gateway_laws.specs.Requests.{RequestPdu}
use Rattle.snmp_community.specs.Layout.{IsMessage, Parts}
use Rattle.snmp_community.specs.Spelling.{community_text}
use Rattle.snmp_community.specs.declared.version.Version.TheVariants.{Version2c}

-- the datagram is a message of SNMPv2c with this community, and its data is this PDU
pub record IsCommunityPdu (datagram community : List ℕ) (p : PduParts) : Type 0 where
  pub message : Parts
  pub is_message : IsMessage datagram message
  pub version : message.version ≡ Version2c
  pub community_is : message.community ≡ community
  pub is_pdu : PduText message.pdu p

-- the PDU is a Response
pub record IsDeviceAnswer (datagram community : List ℕ) (p : PduParts) : Type 0 where
  pub is : IsCommunityPdu datagram community p
  pub response : p.tag ≡ pdu_tag Response

-- the PDU is of this type, with this request-id, these two further numbers and these variables
pub record IsRequest (datagram community : List ℕ) (type : PduType) (id : ℕ) (second third : ℤ) (vs : List Variable)
    : Type 0 where
  pub pdu : PduParts
  pub is : IsCommunityPdu datagram community pdu
  pub type_is : pdu.tag ≡ pdu_tag type
  pub id_is : pdu.id ≡ pos id
  pub second_is : pdu.second ≡ second
  pub third_is : pdu.third ≡ third
  pub are : AreBindings vs pdu.list

-- the same; error-status and error-index are 0
abbrev pub IsAsk : List ℕ → List ℕ → PduType → ℕ → List Variable → Type 0
IsAsk datagram community type id vs = IsRequest datagram community type id (pos 0) (pos 0) vs

-- the PDU asks this, with this request-id
abbrev pub IsRequestFor : List ℕ → List ℕ → ℕ → RequestPdu → Type 0
IsRequestFor datagram community id r =
    IsRequest datagram community r.type id (pos r.non_repeaters) (pos r.max_repetitions) r.variables

abbrev pub request_text : List ℕ → PduType → ℕ → ℤ → ℤ → List Variable → List ℕ
request_text community type id second third vs =
    community_text Version2c community (pdu_text (pdu_with (pdu_tag type) (pos id) second third vs))

abbrev pub ask_text : List ℕ → PduType → ℕ → List Variable → List ℕ
ask_text community type id vs = request_text community type id (pos 0) (pos 0) vs
