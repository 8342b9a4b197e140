use Rattle.std.proofs.Common.{refl, ap, List, ℕ, subst, sym, ◌∙◌, ◌≡◌}
use Rattle.snmp_msg.specs.Variables.{Variable, variables_of}
use Rattle.snmp_msg.specs.declared.pdu_type.PduType.TheVariants.{SetRequest}
use Rattle.snmp_msg.proofs.Variables.{variables_of-again}
use Rattle.snmp_gate.specs.DeviceMessages.{IsAsk}
use Rattle.snmp_gate.specs.History.{sets}
use Rattle.snmp_gate.specs.Messages.{question_given}
use Rattle.snmp_gate.proofs.ask.set_ask.Goals as goal

pub returns : goal.returns
returns c tables q told asked stands =
    let client = c.args.message.now.client.items in
    let bs = c.pdu_of.ensures.bindings in
    let list = (c.pdu_of.ensures.asked client q (ap (question_given client) c.taken-taken.ensures ∙ asked)).list in
    let same : variables_of q.list ≡ bs.0 = sym (ap (λ (octets : List ℕ). variables_of octets) list) ∙ (variables_of-again bs.0 c.pdu_of.result.list.now bs.1).0 in
    let datagram = c.in_ok-datagram.datagram.items in
    let ask = c.in_ok-datagram.ensures.ask bs.0 bs.1 in
    sets c.in-Some.community c.in-Some.is stands.tag refl stands.may
    (subst (λ (community : List ℕ). IsAsk datagram community SetRequest c.args.id (variables_of q.list)) c.deref.ensures.value
    (subst (λ (vs : List Variable). IsAsk datagram c.deref.result.now SetRequest c.args.id vs) (sym same) ask))
