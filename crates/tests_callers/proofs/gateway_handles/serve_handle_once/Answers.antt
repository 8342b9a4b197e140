use Rattle.std.proofs.Common.{subst, sym}
use Rattle.std.specs.Int.{to_be_bytes, w64}
use Rattle.tests_callers.specs.GateServed.{IsHandleServed}
use Rattle.tests_callers.specs.declared.gateway_handles.GateCome.{GateCome}
use Rattle.tests_callers.proofs.GateServed.{client, device, next}
use Rattle.tests_callers.proofs.gateway_handles.serve_handle_once.Goals as goal

pub returns-in-Ok : goal.returns-in-Ok
returns-in-Ok c = subst (λ (what : GateCome). IsHandleServed c.args.gate.now c.args.now what c.take_client.new.self) (sym c.in-Client.is) (client c.args.gate.now c.take_client.new.self c.args.now c.in-Client.from.now c.in-Client.datagram.now c.take_client.result c.take_client.ensures)

pub returns-in-Err : goal.returns-in-Err
returns-in-Err c = subst (λ (what : GateCome). IsHandleServed c.args.gate.now c.args.now what c.take_client.new.self) (sym c.in-Client.is) (client c.args.gate.now c.take_client.new.self c.args.now c.in-Client.from.now c.in-Client.datagram.now c.take_client.result c.take_client.ensures)

pub returns-in-Ok-take_device : goal.returns-in-Ok-take_device
returns-in-Ok-take_device c = subst (λ (what : GateCome). IsHandleServed c.args.gate.now c.args.now what c.take_device.new.self) (sym c.in-Device.is) (device c.args.gate.now c.take_device.new.self c.args.now c.in-Device.device c.in-Device.datagram.now c.take_device.result c.take_device.ensures)

pub returns-in-Err-take_device : goal.returns-in-Err-take_device
returns-in-Err-take_device c = subst (λ (what : GateCome). IsHandleServed c.args.gate.now c.args.now what c.take_device.new.self) (sym c.in-Device.is) (device c.args.gate.now c.take_device.new.self c.args.now c.in-Device.device c.in-Device.datagram.now c.take_device.result c.take_device.ensures)

pub returns-in-Ok-next : goal.returns-in-Ok-next
returns-in-Ok-next c = subst (λ (what : GateCome). IsHandleServed c.args.gate.now c.args.now what c.next.new.self) (sym c.in-Next.is) (next c.args.gate.now c.next.new.self c.args.now (to_be_bytes w64 c.in-Next.salt) c.in-Next.ask_id c.next.result c.next.ensures)

pub returns-in-Err-next : goal.returns-in-Err-next
returns-in-Err-next c = subst (λ (what : GateCome). IsHandleServed c.args.gate.now c.args.now what c.next.new.self) (sym c.in-Next.is) (next c.args.gate.now c.next.new.self c.args.now (to_be_bytes w64 c.in-Next.salt) c.in-Next.ask_id c.next.result c.next.ensures)
