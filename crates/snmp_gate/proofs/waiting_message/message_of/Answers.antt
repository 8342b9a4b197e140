use Rattle.snmp_message.specs.Scoped.{contexts_of}
use Rattle.snmp_msg.specs.Pdu.{pdu_of}
use Rattle.snmp_incoming.specs.Answers.{given_of}
use Rattle.snmp_gate.proofs.Asked.{reads_question}
use Rattle.snmp_gate.proofs.waiting_message.message_of.Goals as goal

pub returns : goal.returns
returns c =
    let contexts = contexts_of c.scoped-scoped.result in
    reads_question c.args.client.now (given_of c.args.taken.now) contexts (pdu_of c.pdu.result) c.scoped-scoped.ensures (c.pdu.ensures.is_pdu contexts c.scoped-scoped.ensures)
