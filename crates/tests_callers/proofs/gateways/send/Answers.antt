use Rattle.snmp_gate.specs.Waiting.{fresh}
use Rattle.tests_callers.proofs.Seen.{to_client, to_device}
use Rattle.tests_callers.proofs.gateways.send.Goals as goal

pub returns-in-ToClient : goal.returns-in-ToClient
returns-in-ToClient c = λ since before past stands.
    to_client c.args.gate.now c.next.new.self c.args.now before (fresh c.args.salt c.args.ask_id) c.in_ok-sent.sent c.in-ToClient.number c.in-ToClient.message c.in-ToClient.says c.in-ToClient.datagram c.in-ToClient.ended c.in-ToClient.is (c.in_ok-sent.ensures.happens since before past stands)

pub returns-in-ToDevice : goal.returns-in-ToDevice
returns-in-ToDevice c = λ since before past stands.
    to_device c.args.gate.now c.next.new.self c.args.now before (fresh c.args.salt c.args.ask_id) c.in_ok-sent.sent c.in-ToDevice.number c.in-ToDevice.device c.in-ToDevice.datagram c.in-ToDevice.again c.in-ToDevice.is (c.in_ok-sent.ensures.happens since before past stands)
