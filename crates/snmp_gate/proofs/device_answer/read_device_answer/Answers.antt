use Rattle.std.proofs.Common.{ap, subst, sym, ◌∙◌}
use Rattle.snmp_msg.specs.Pdu.{PduParts, PduText, pdu_of}
use Rattle.snmp_community.specs.Layout.{Parts}
use Rattle.snmp_community.specs.Message.{parts}
use Rattle.snmp_gate.proofs.device_answer.read_device_answer.Goals as goal

pub returns-in_default : goal.returns-in_default
returns-in_default c = λ community p answer. c.in_default.ensures.none answer.is.message answer.is.is_message

pub returns-then-not-is_version_2c : goal.returns-then-not-is_version_2c
returns-then-not-is_version_2c c = λ community p answer.
    let same = c.one_community_message.ensures.one c.args.datagram.now (parts c.in-Ok.message) answer.is.message c.in-Ok.ensures.exact answer.is.is_message in
    let version = ap (λ (m : Parts). m.version) same ∙ answer.is.version in
    let yes = c.is_version_2c.ensures.1 version in
    cc (sym c.if-not-is_version_2c.true ∙ yes)

pub returns-in_default-read_community_pdu : goal.returns-in_default-read_community_pdu
returns-in_default-read_community_pdu c = λ community p answer.
    let same = c.one_community_message.ensures.one c.args.datagram.now (parts c.in-Ok.message) answer.is.message c.in-Ok.ensures.exact answer.is.is_message in
    c.in_default-read_community_pdu.ensures.none p (subst (λ (m : Parts). PduText m.pdu p) (sym same) answer.is.is_pdu)

pub returns-then-pdu-tag : goal.returns-then-pdu-tag
returns-then-pdu-tag c = λ community p answer.
    let same = c.one_community_message.ensures.one c.args.datagram.now (parts c.in-Ok.message) answer.is.message c.in-Ok.ensures.exact answer.is.is_message in
    let pdu = c.one_pdu.ensures.pdu c.in-Ok.message.pdu.now (pdu_of c.in-Ok-read_community_pdu.pdu) p c.in-Ok-read_community_pdu.ensures.exact (subst (λ (m : Parts). PduText m.pdu p) (sym same) answer.is.is_pdu) in
    c.if-pdu-tag.true (ap (λ (q : PduParts). q.tag) pdu ∙ answer.response ∙ sym c.tag.ensures.value)
