-- What the values of the code say.
use Rattle.snmp_community.specs.Layout.{Parts}
use Rattle.snmp_community.specs.declared.message.CommunityMessage.{CommunityMessage}

-- a message without where it lies in memory
abbrev pub parts : CommunityMessage → Parts
parts m = record {
  version = m.version;
  community = m.community.now;
  pdu = m.pdu.now;
  pdu_at = m.pdu_at;
}
