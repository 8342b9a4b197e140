use Rattle.std.proofs.Common.{subst, sym}
use Rattle.tests_callers.specs.Served.{GoesOn}
use Rattle.tests_callers.specs.declared.notifications.Coming.{Coming}
use Rattle.tests_callers.proofs.Served.{originated, receiver, trap}
use Rattle.tests_callers.proofs.notifications.forward_one.Goals as goal

pub returns-in-Ok : goal.returns-in-Ok
returns-in-Ok c = subst (λ (what : Coming). GoesOn c.args.originator.now c.args.now what c.take_trap.new.self) (sym c.in-Trap.is) (trap _ c.args.originator.now c.take_trap.new.self c.in-Trap.device c.in-Trap.datagram.now c.take_trap.result c.take_trap.ensures.takes c.take_trap.ensures.informs c.take_trap.ensures.err)

pub returns-in-Err : goal.returns-in-Err
returns-in-Err c = subst (λ (what : Coming). GoesOn c.args.originator.now c.args.now what c.take_trap.new.self) (sym c.in-Trap.is) (trap _ c.args.originator.now c.take_trap.new.self c.in-Trap.device c.in-Trap.datagram.now c.take_trap.result c.take_trap.ensures.takes c.take_trap.ensures.informs c.take_trap.ensures.err)

pub returns-in-Ok-take_receiver : goal.returns-in-Ok-take_receiver
returns-in-Ok-take_receiver c = subst (λ (what : Coming). GoesOn c.args.originator.now c.args.now what c.take_receiver.new.self) (sym c.in-Receiver.is) (receiver _ c.args.originator.now c.take_receiver.new.self c.args.now c.in-Receiver.receiver c.in-Receiver.datagram.now c.take_receiver.result c.take_receiver.ensures.takes c.take_receiver.ensures.forwarder c.take_receiver.ensures.err)

pub returns-in-Err-take_receiver : goal.returns-in-Err-take_receiver
returns-in-Err-take_receiver c = subst (λ (what : Coming). GoesOn c.args.originator.now c.args.now what c.take_receiver.new.self) (sym c.in-Receiver.is) (receiver _ c.args.originator.now c.take_receiver.new.self c.args.now c.in-Receiver.receiver c.in-Receiver.datagram.now c.take_receiver.result c.take_receiver.ensures.takes c.take_receiver.ensures.forwarder c.take_receiver.ensures.err)

pub returns-after-next : goal.returns-after-next
returns-after-next c = subst (λ (what : Coming). GoesOn c.args.originator.now c.args.now what c.next.new.self) (sym c.in-Next.is) (originated _ c.args.originator.now c.next.new.self c.args.now c.in-Next.salt c.in-Next.ask_id c.next.result c.next.ensures.goes_out c.next.ensures.err)
