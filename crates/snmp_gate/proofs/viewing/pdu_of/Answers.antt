use Rattle.std.proofs.Common.{ap}
use Rattle.snmp_message.specs.Scoped.{contexts_of}
use Rattle.snmp_msg.specs.Pdu.{pdu_of}
use Rattle.snmp_incoming.specs.Answers.{given_of}
use Rattle.snmp_gate.specs.Messages.{question_with}
use Rattle.snmp_gate.specs.Question.{Question}
use Rattle.snmp_gate.proofs.Asked.{one_question, reads_question}
use Rattle.snmp_gate.proofs.viewing.pdu_of.Goals as goal

pub returns-clause-asked : goal.returns-clause-asked
returns-clause-asked c client q asked =
    let contexts = contexts_of c.scoped-scoped.result in
    let is = one_question client (given_of c.args.taken.now) contexts (pdu_of c.pdu.result) q c.scoped-scoped.ensures (c.pdu.ensures.is_pdu contexts c.scoped-scoped.ensures) asked in
    record {
      tag = ap (λ (x : Question). x.tag) is;
      second = ap (λ (x : Question). x.second) is;
      third = ap (λ (x : Question). x.third) is;
      list = ap (λ (x : Question). x.list) is;
    }

pub returns-clause-bindings : goal.returns-clause-bindings
returns-clause-bindings c =
    let contexts = contexts_of c.scoped-scoped.result in
    let says = (c.pdu.ensures.is_pdu contexts c.scoped-scoped.ensures).says in
    (says.variables, says.are_bindings)

pub returns-clause-asks : goal.returns-clause-asks
returns-clause-asks c client =
    let g = given_of c.args.taken.now in
    let contexts = contexts_of c.scoped-scoped.result in
    let front = c.scoped-scoped.ensures in
    (question_with client g contexts (pdu_of c.pdu.result), reads_question client g contexts (pdu_of c.pdu.result) front (c.pdu.ensures.is_pdu contexts front))
