use Rattle.std.proofs.Common.{◌≡◌, subst}
use Rattle.snmp_message.specs.Scoped.{Contexts, contexts_of}
use Rattle.snmp_msg.specs.Pdu.{PduParts, pdu_of}
use Rattle.snmp_incoming.specs.Texts.{text_of}
use Rattle.snmp_agent.specs.Dispatch.{HandledBy}
use Rattle.snmp_agent.proofs.agent.Agent.unhandled.Goals as goal

pub returns : goal.returns
returns c s p front is_pdu =
    let same : contexts_of c.scoped-scoped.result ≡ s = c.one_content.ensures.front (text_of c.args.taken.now.text) (contexts_of c.scoped-scoped.result) s c.scoped-scoped.ensures front in
    let same_pdu : pdu_of c.pdu-pdu.result ≡ p = c.one_pdu.ensures.pdu s.pdu (pdu_of c.pdu-pdu.result) p (c.pdu-pdu.ensures.is_pdu s front) is_pdu in
    let So = λ (x : Contexts) (y : PduParts). HandledBy c.args.self.now.engine c.args.self.now.tables x y c.handled_by.result in
    subst (λ (x : Contexts). So x p) same (subst (λ (y : PduParts). So (contexts_of c.scoped-scoped.result) y) same_pdu c.handled_by.ensures)
