use Rattle.snmp_gate.proofs.Standing.{bulk_begins}
use Rattle.snmp_gate.proofs.begin.begin_bulk.Goals as goal

pub returns-clause-stands : goal.returns-clause-stands
returns-clause-stands c tables q told viewer of tag =
    c.bulk_on.ensures.stands tables q told viewer
    (bulk_begins tables q told c.args.viewer.now c.args.pdu.now c.args.limits.now c.in_ok-dialogue.dialogue viewer of tag c.requires c.in_ok-dialogue.ensures.is_for c.in_ok-dialogue.ensures.begin (c.in_ok-dialogue.ensures.stand c.args.viewer.now told.variables))
