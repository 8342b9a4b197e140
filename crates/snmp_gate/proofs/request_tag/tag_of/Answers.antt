use Rattle.std.proofs.Common.{ap, sym, ◌∙◌}
use Rattle.snmp_gate.specs.Messages.{question_given}
use Rattle.snmp_gate.proofs.request_tag.tag_of.Goals as goal

pub returns : goal.returns
returns c =
    let client = c.args.message.now.client.items in
    let asks = c.pdu_of.ensures.asks client in
    let same = ap (question_given client) c.taken-taken.ensures in
    (asks.0, sym same ∙ asks.1, (c.pdu_of.ensures.asked client asks.0 asks.1).tag)
