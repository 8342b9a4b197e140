-- The types of PDUs (RFC 3416, section 3), and their classes (RFC 3411, section 2.8).
--
-- `pdu_tag`: the tag of a type. `IsPduTag`: the tag is one of these eight. The classes are of tags: whether a
-- PDU with this tag reads (`IsRead`), writes (`IsWrite`), answers (`IsResponse`), or is to be answered
-- (`is_confirmed`).
use Rattle.std.specs.Prelude.{◌≡◌, ◌≢◌, ◌≤◌, ◌⊎◌, ◌==◌, ◌||◌, ◌&&◌, not, nat_le, ℕ, Bool}
use Rattle.snmp_msg.specs.declared.pdu_type.PduType.{PduType}
use Rattle.snmp_msg.specs.declared.pdu_type.PduType.TheVariants.{GetRequest, GetNextRequest, Response, SetRequest}
use Rattle.snmp_msg.specs.declared.pdu_type.PduType.TheVariants.{GetBulkRequest, InformRequest, SNMPv2Trap, Report}

-- ---- the tags

abbrev pub pdu_tag : PduType → ℕ
pdu_tag GetRequest = 160
pdu_tag GetNextRequest = 161
pdu_tag Response = 162
pdu_tag SetRequest = 163
pdu_tag GetBulkRequest = 165
pdu_tag InformRequest = 166
pdu_tag SNMPv2Trap = 167
pdu_tag Report = 168

-- the tag of the Trap of SNMPv1, which is between the others and of no PDU of SNMPv3
abbrev pub obsolete_tag : ℕ
obsolete_tag = 164

-- The tag of one of the eight types.
pub record IsPduTag (tag : ℕ) : Type 0 where
  pub least : pdu_tag GetRequest ≤ tag
  pub most : tag ≤ pdu_tag Report
  pub used : tag ≢ obsolete_tag

abbrev pub is_pdu_tag : ℕ → Bool
is_pdu_tag tag = nat_le (pdu_tag GetRequest) tag && nat_le tag (pdu_tag Report) && not (tag == obsolete_tag)

-- ---- the classes

-- the Read Class
abbrev pub IsRead : ℕ → Type 0
IsRead tag = (tag ≡ pdu_tag GetRequest) ⊎ ((tag ≡ pdu_tag GetNextRequest) ⊎ (tag ≡ pdu_tag GetBulkRequest))

-- the Write Class
abbrev pub IsWrite : ℕ → Type 0
IsWrite tag = tag ≡ pdu_tag SetRequest

-- the Response Class
abbrev pub IsResponse : ℕ → Type 0
IsResponse tag = (tag ≡ pdu_tag Response) ⊎ (tag ≡ pdu_tag Report)

-- the Confirmed Class: the PDUs that are answered
abbrev pub is_confirmed : ℕ → Bool
is_confirmed tag = tag == pdu_tag GetRequest || tag == pdu_tag GetNextRequest || tag == pdu_tag SetRequest
    || tag == pdu_tag GetBulkRequest || tag == pdu_tag InformRequest
