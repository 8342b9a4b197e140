-- The canonical spelling of a message: every length of its own elements is the shortest.
--
-- `community_text`: the message. `written`: what such a message says.
use Rattle.std.specs.Prelude.{ℕ, ◌+◌, List, ◌++◌, length}
use Rattle.snmp_ber.specs.Spelling.{head_of, element}
use Rattle.snmp_message.specs.Spelling.{number}
use Rattle.snmp_message.specs.declared.field.TheConstants.{OCTET_STRING, SEQUENCE}
use Rattle.snmp_community.specs.Versions.{version_number}
use Rattle.snmp_community.specs.Layout.{Parts}
use Rattle.snmp_community.specs.declared.version.Version.{Version}

-- what stands in a message in front of its PDU, after its head
unfoldable pub front_text : Version → List ℕ → List ℕ
front_text version community = number (version_number version) ++ element OCTET_STRING community

-- the content of a message
unfoldable pub content_text : Version → List ℕ → List ℕ → List ℕ
content_text version community pdu = front_text version community ++ pdu

unfoldable pub community_text : Version → List ℕ → List ℕ → List ℕ
community_text version community pdu = element SEQUENCE (content_text version community pdu)

-- the parts of a message that was written
abbrev pub written : Version → List ℕ → List ℕ → Parts
written version community pdu = record {
  version = version;
  community = community;
  pdu = pdu;
  pdu_at = length (head_of SEQUENCE (length (content_text version community pdu)))
      + length (front_text version community);
}
