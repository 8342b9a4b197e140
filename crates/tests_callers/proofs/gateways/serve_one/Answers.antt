use Rattle.std.proofs.Common.{subst, sym}
use Rattle.snmp_gate.specs.Waiting.{fresh}
use Rattle.tests_callers.specs.Served.{IsServed}
use Rattle.tests_callers.specs.declared.gateways.Come.{Come}
use Rattle.tests_callers.proofs.Served.{client, device, next}
use Rattle.tests_callers.proofs.gateways.serve_one.Goals as goal

pub returns-after-take_client : goal.returns-after-take_client
returns-after-take_client c = subst (λ (what : Come). IsServed c.args.gate.now c.args.now what c.take_client.new.self) (sym c.in-Client.is) (client _ c.args.gate.now c.take_client.new.self c.args.now c.in-Client.from.now c.in-Client.datagram.now c.take_client.result c.take_client.ensures.happens c.take_client.ensures.stays c.take_client.ensures.err)

pub returns-in-Ok-take_device : goal.returns-in-Ok-take_device
returns-in-Ok-take_device c = subst (λ (what : Come). IsServed c.args.gate.now c.args.now what c.take_device.new.self) (sym c.in-Device.is) (device _ c.args.gate.now c.take_device.new.self c.args.now c.in-Device.device c.in-Device.datagram.now c.take_device.result c.take_device.ensures.happens c.take_device.ensures.stays c.take_device.ensures.err)

pub returns-in-Err-take_device : goal.returns-in-Err-take_device
returns-in-Err-take_device c = subst (λ (what : Come). IsServed c.args.gate.now c.args.now what c.take_device.new.self) (sym c.in-Device.is) (device _ c.args.gate.now c.take_device.new.self c.args.now c.in-Device.device c.in-Device.datagram.now c.take_device.result c.take_device.ensures.happens c.take_device.ensures.stays c.take_device.ensures.err)

pub returns-after-next : goal.returns-after-next
returns-after-next c = subst (λ (what : Come). IsServed c.args.gate.now c.args.now what c.next.new.self) (sym c.in-Next.is) (next _ c.args.gate.now c.next.new.self c.args.now (fresh c.in-Next.salt c.in-Next.ask_id) c.next.result c.next.ensures.happens c.next.ensures.idle c.next.ensures.stays c.next.ensures.err)
