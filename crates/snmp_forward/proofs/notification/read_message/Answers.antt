use Rattle.std.proofs.Common.{ap, subst, sym, ◌∙◌}
use Rattle.snmp_msg.specs.Pdu.{PduText}
use Rattle.snmp_community.specs.Layout.{Parts}
use Rattle.snmp_community.specs.Message.{parts}
use Rattle.snmp_forward.proofs.notification.read_message.Goals as goal

pub returns-in_default : goal.returns-in_default
returns-in_default c = λ community p is. c.in_default.ensures.none is.message is.is_message

pub returns-in_default-version : goal.returns-in_default-version
returns-in_default-version c = λ community p is.
    let same = c.one_community_message.ensures.one c.args.datagram.now (parts c.in-Ok.message) is.message c.in-Ok.ensures.exact is.is_message in
    c.in_default-version.not-Version2c (ap (λ (m : Parts). m.version) same ∙ is.version)

pub returns-in_default-read_community_pdu : goal.returns-in_default-read_community_pdu
returns-in_default-read_community_pdu c = λ community p is.
    let same = c.one_community_message.ensures.one c.args.datagram.now (parts c.in-Ok.message) is.message c.in-Ok.ensures.exact is.is_message in
    c.in_default-read_community_pdu.ensures.none p (subst (λ (m : Parts). PduText m.pdu p) (sym same) is.is_pdu)
