use Rattle.std.proofs.Common.{◌≡◌, ◌<◌, List, length, map, rules}
use Rattle.snmp_message.specs.declared.message.TheConstants.{LARGEST}
use Rattle.snmp_message.specs.declared.refusal.Refusal.TheVariants.{TooLarge}
use Rattle.snmp_msg.specs.Pdu.{pdu_with, pdu_text}
use Rattle.snmp_msg.specs.Variables.{Variable, AreBindings, bound_variable}
use Rattle.snmp_handles.specs.ScopedPdus.{saying_of}
use Rattle.snmp_handles.proofs.ScopedLengths.{stops_by_pdu}
use Rattle.snmp_handles.proofs.scoped.scoped_text.Goals as goal

pub returns-in-Err : goal.returns-in-Err
returns-in-Err c =
    let of = c.args.of.now in
    let vs : List Variable = map bound_variable c.deref.result.now in
    let are : AreBindings vs c.args.list.now = search rules in
    let long : c.in-Err.fault.refusal ≡ TooLarge → LARGEST < length (pdu_text (pdu_with of.tag of.request_id of.second of.third vs)) = search rules in
    stops_by_pdu (saying_of of) c.args.list.now vs c.in-Err.fault.refusal are c.in-Err.ensures.refusal long
