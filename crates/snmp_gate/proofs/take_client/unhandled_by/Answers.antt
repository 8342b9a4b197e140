use Rattle.std.proofs.Common.{IfSome, subst}
use Rattle.snmp_message.specs.Scoped.{contexts_of}
use Rattle.snmp_msg.specs.Pdu.{pdu_of}
use Rattle.snmp_incoming.specs.Answers.{given_of}
use Rattle.snmp_gate.specs.Causes.{IsUnhandledBy}
use Rattle.snmp_gate.specs.Question.{Question}
use Rattle.snmp_gate.proofs.Asked.{one_question}
use Rattle.snmp_gate.proofs.Whys.{unhandled_so}
use Rattle.snmp_gate.proofs.take_client.unhandled_by.Goals as goal

pub returns : goal.returns
returns c devices client q asked =
    let a = c.args.agent.now in
    let g = given_of c.args.taken.now in
    let contexts = contexts_of c.scoped-scoped.result in
    let pdu = pdu_of c.pdu-pdu.result in
    let front = c.scoped-scoped.ensures in
    let text = c.pdu-pdu.ensures.is_pdu contexts front in
    subst (λ (x : Question). IfSome c.unhandled.result (IsUnhandledBy a.engine a.tables devices x)) (one_question client g contexts pdu q front text asked)
    (unhandled_so a.engine a.tables devices client g contexts pdu c.unhandled.result (c.unhandled.ensures contexts pdu front text))
