use Rattle.std.proofs.Common.{take}
use Rattle.snmp_msg.specs.Variables.{variables_of}
use Rattle.snmp_forward.specs.Receivers.{ArePlaces, MayBeNotified}
use Rattle.snmp_forward.specs.declared.receivers.Receiver.{Receiver}
use Rattle.snmp_forward.proofs.receivers.Receivers.choose.Given as goal

abbrev pub invariant-loop-number : goal.invariant-loop-number
invariant-loop-number l =
    ArePlaces (λ (r : Receiver). MayBeNotified l.tables r l.context (variables_of l.notification.pdu.list.now) l.notification.trap_oid) (take l.number l.self.list.items) l.numbers.items
