use Rattle.tests_callers.proofs.Notified.{trap_told, inform_told, discovery_told, time_told}
use Rattle.tests_callers.proofs.notifications.notify.Goals as goal

pub returns-in-Trap : goal.returns-in-Trap
returns-in-Trap c = λ notifications informs stands informs_stand all.
    trap_told c.args.originator.now c.next.new.self c.args.now c.args.salt c.args.ask_id c.in_ok-receiver.field-0 c.in-Trap.number c.in-Trap.receiver c.in-Trap.datagram notifications stands c.in-Trap.is c.in_ok-receiver.ensures.goes_out

pub returns-in-Request : goal.returns-in-Request
returns-in-Request c = λ notifications informs stands informs_stand all.
    inform_told c.args.originator.now c.next.new.self c.args.now c.args.salt c.args.ask_id c.in_ok-receiver.field-0 c.in-InformSent.inform c.in-InformSent.receiver c.in-InformSent.message c.in-InformSent.datagram informs informs_stand all c.informs_are_mediated.ensures c.in-InformSent.is c.in-Request.is c.in_ok-receiver.ensures.goes_out

pub returns-in-Discovery : goal.returns-in-Discovery
returns-in-Discovery c = λ notifications informs stands informs_stand all.
    discovery_told c.args.originator.now c.next.new.self c.args.now c.args.salt c.args.ask_id c.in_ok-receiver.field-0 c.in-InformSent.inform c.in-InformSent.receiver c.in-InformSent.message c.in-InformSent.datagram informs informs_stand c.in-InformSent.is c.in-Discovery.is c.in_ok-receiver.ensures.goes_out

pub returns-in-TimeRequest : goal.returns-in-TimeRequest
returns-in-TimeRequest c = λ notifications informs stands informs_stand all.
    time_told c.args.originator.now c.next.new.self c.args.now c.args.salt c.args.ask_id c.in_ok-receiver.field-0 c.in-InformSent.inform c.in-InformSent.receiver c.in-InformSent.message c.in-InformSent.datagram informs informs_stand c.in-InformSent.is c.in-TimeRequest.is c.in_ok-receiver.ensures.goes_out
