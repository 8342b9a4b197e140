use Rattle.std.proofs.Common.{Ok, subst, []}
use Rattle.snmp_message.specs.Scoped.{contexts_of}
use Rattle.snmp_msg.specs.Pdu.{pdu_of}
use Rattle.snmp_incoming.specs.Answers.{given_of}
use Rattle.snmp_agent.specs.declared.response.Response.{Response}
use Rattle.snmp_listener.specs.Acknowledging.{Responds}
use Rattle.snmp_listener.proofs.acknowledgement.too_big.Goals as goal

pub returns-in-Ok-clause-answer : goal.returns-in-Ok-clause-answer
returns-in-Ok-clause-answer c =
    let contexts = contexts_of c.scoped-scoped.result in
    let pdu = pdu_of c.pdu-pdu.result in
    let is_pdu = c.pdu-pdu.ensures.is_pdu contexts c.scoped-scoped.ensures in
    record {
      contexts = contexts;
      scoped = c.scoped-scoped.ensures;
      pdu = pdu;
      is_pdu = is_pdu;
      responds = subst (λ (r : Response). Responds c.args.agent.now c.args.now (given_of c.args.taken.now) contexts pdu [] r (Ok c.in-Ok.text.items)) c.response_to.ensures (c.in-Ok.ensures.answer contexts pdu c.scoped-scoped.ensures is_pdu);
    }
