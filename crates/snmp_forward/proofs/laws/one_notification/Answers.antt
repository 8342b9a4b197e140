use Rattle.std.proofs.Common.{ap, subst, sym, ◌∙◌}
use Rattle.snmp_msg.specs.Pdu.{PduParts, PduText}
use Rattle.snmp_msg.specs.Variables.{variables_of}
use Rattle.snmp_community.specs.Layout.{Parts}
use Rattle.snmp_forward.specs.Notifications.{HasTrapOid}
use Rattle.snmp_forward.proofs.Choices.{IsOneMessage, not_both, one_trap_oid}
use Rattle.snmp_forward.proofs.laws.one_notification.Goals as goal

pub returns-clause-one : goal.returns-clause-one
returns-clause-one c w a b p q x y m n =
    let message = c.one_community_message.ensures.one w m.is.message n.is.message m.is.is_message n.is.is_message in
    let pdu = c.one_pdu.ensures.pdu n.is.message.pdu p q (subst (λ (i : Parts). PduText i.pdu p) message m.is.is_pdu) n.is.is_pdu in (
      sym m.is.community_is ∙ ap (λ (i : Parts). i.community) message ∙ n.is.community_is,
      pdu,
      one_trap_oid (variables_of q.list) x y (subst (λ (i : PduParts). HasTrapOid (variables_of i.list) x) pdu m.trap_oid) n.trap_oid,
    )

pub returns-clause-none : goal.returns-clause-none
returns-clause-none c =
    let one : IsOneMessage = λ w a b p q m n.
    let message = c.one_community_message.ensures.one w m.message n.message m.is_message n.is_message in
    c.one_pdu.ensures.pdu n.message.pdu p q (subst (λ (i : Parts). PduText i.pdu p) message m.is_pdu) n.is_pdu in
    λ w a p x why is. not_both one w a p x why is
