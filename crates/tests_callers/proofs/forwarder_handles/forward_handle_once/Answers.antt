use Rattle.std.proofs.Common.{subst, sym}
use Rattle.std.specs.Int.{to_be_bytes, w64}
use Rattle.tests_callers.specs.ForwardServed.{HandleGoesOn}
use Rattle.tests_callers.specs.declared.forwarder_handles.ForwardCome.{ForwardCome}
use Rattle.tests_callers.proofs.ForwardServed.{originated, receiver, trap}
use Rattle.tests_callers.proofs.forwarder_handles.forward_handle_once.Goals as goal

pub returns-in-Ok : goal.returns-in-Ok
returns-in-Ok c = subst (λ (what : ForwardCome). HandleGoesOn c.args.forwarder.now c.args.now what c.take_trap.new.self) (sym c.in-Trap.is) (trap c.args.forwarder.now c.take_trap.new.self c.in-Trap.device c.in-Trap.datagram.now c.take_trap.result c.take_trap.ensures)

pub returns-in-Err : goal.returns-in-Err
returns-in-Err c = subst (λ (what : ForwardCome). HandleGoesOn c.args.forwarder.now c.args.now what c.take_trap.new.self) (sym c.in-Trap.is) (trap c.args.forwarder.now c.take_trap.new.self c.in-Trap.device c.in-Trap.datagram.now c.take_trap.result c.take_trap.ensures)

pub returns-in-Ok-take_receiver : goal.returns-in-Ok-take_receiver
returns-in-Ok-take_receiver c = subst (λ (what : ForwardCome). HandleGoesOn c.args.forwarder.now c.args.now what c.take_receiver.new.self) (sym c.in-Receiver.is) (receiver c.args.forwarder.now c.take_receiver.new.self c.args.now c.in-Receiver.receiver c.in-Receiver.datagram.now c.take_receiver.result c.take_receiver.ensures)

pub returns-in-Err-take_receiver : goal.returns-in-Err-take_receiver
returns-in-Err-take_receiver c = subst (λ (what : ForwardCome). HandleGoesOn c.args.forwarder.now c.args.now what c.take_receiver.new.self) (sym c.in-Receiver.is) (receiver c.args.forwarder.now c.take_receiver.new.self c.args.now c.in-Receiver.receiver c.in-Receiver.datagram.now c.take_receiver.result c.take_receiver.ensures)

pub returns-in-Ok-next : goal.returns-in-Ok-next
returns-in-Ok-next c = subst (λ (what : ForwardCome). HandleGoesOn c.args.forwarder.now c.args.now what c.next.new.self) (sym c.in-Next.is) (originated c.args.forwarder.now c.next.new.self c.args.now (to_be_bytes w64 c.in-Next.salt) c.in-Next.ask_id c.next.result c.next.ensures)

pub returns-in-Err-next : goal.returns-in-Err-next
returns-in-Err-next c = subst (λ (what : ForwardCome). HandleGoesOn c.args.forwarder.now c.args.now what c.next.new.self) (sym c.in-Next.is) (originated c.args.forwarder.now c.next.new.self c.args.now (to_be_bytes w64 c.in-Next.salt) c.in-Next.ask_id c.next.result c.next.ensures)
