use Rattle.snmp_gate.proofs.Standing.{read_begins}
use Rattle.snmp_gate.proofs.begin.begin_read.Goals as goal

pub returns-clause-stands : goal.returns-clause-stands
returns-clause-stands c tables q told viewer of tag =
    c.read_on.ensures.stands tables q told viewer
    (read_begins tables q told c.args.viewer.now c.args.operation c.args.pdu.now c.in_ok-dialogue.dialogue viewer of tag c.in_ok-dialogue.ensures.requests c.in_ok-dialogue.ensures.begin (c.in_ok-dialogue.ensures.stand told.variables))
