-- A message by what comes before the bindings of its PDU.
--
-- `pdu_before front list`: the PDU with the tag and the numbers of the front, whose list has this content.
-- `pdu_after front vs`: the same, with these bindings in their canonical spelling. `text_after front vs`: the
-- message around it.
use Rattle.std.specs.Prelude.{ℕ, List}
use Rattle.snmp_msg.specs.Pdu.{PduParts, pdu_text, pdu_with}
use Rattle.snmp_msg.specs.Variables.{Variable}
use Rattle.snmp_community.specs.Spelling.{community_text}
use Rattle.snmp_community.specs.declared.bindings.CommunityFront.{CommunityFront}

abbrev pub pdu_before : CommunityFront → List ℕ → PduParts
pdu_before f list = record { tag = f.tag; id = f.id; second = f.second; third = f.third; list = list }

abbrev pub pdu_after : CommunityFront → List Variable → PduParts
pdu_after f vs = pdu_with f.tag f.id f.second f.third vs

abbrev pub text_after : CommunityFront → List Variable → List ℕ
text_after f vs = community_text f.version f.community.now (pdu_text (pdu_after f vs))
