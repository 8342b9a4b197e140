use Rattle.std.proofs.Common.{◌≤◌, arith, pos, [], length}
use Rattle.snmp_message.specs.Scoped.{scoped_text}
use Rattle.snmp_msg.specs.Variables.{variables_text}
use Rattle.snmp_msg.specs.Pdu.{pdu_with, pdu_text}
use Rattle.snmp_msg.specs.PduTypes.{pdu_tag}
use Rattle.snmp_msg.specs.declared.pdu_type.PduType.TheVariants.{GetRequest}
use Rattle.snmp_manager.proofs.Written.{scoped_most}
use Rattle.snmp_manager.proofs.manager.Manager.discover.Goals as goal

-- it is never too long
pub unreachable-requires : goal.unreachable-requires
unfolding variables_text
unreachable-requires c =
    let is = c.nothing_of-body.ensures in
    let short = rw (is.engine, is.name, is.tag, is.id, is.second, is.third, is.bindings) at c.in-Err.ensures.short c.in-TooLarge.is in
    let pdu = pdu_with (pdu_tag GetRequest) (pos c.args.id) (pos 0) (pos 0) [] in
    let most : length (scoped_text [] [] (pdu_text pdu)) ≤ 72 = scoped_most [] [] pdu in
    omega (arith, short, most)
