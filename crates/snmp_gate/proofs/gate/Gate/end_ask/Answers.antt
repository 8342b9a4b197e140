use Rattle.std.proofs.Common.{arith}
use Rattle.snmp_gate.proofs.AsksKept.{ended_one, idle_beyond}
use Rattle.snmp_gate.proofs.Bounded.{asks_set, ended_few}
use Rattle.snmp_gate.proofs.gate.Gate.end_ask.Goals as goal

pub returns-then-device-len-clause-ends : goal.returns-then-device-len-clause-ends
returns-then-device-len-clause-ends c = ended_one c.args.self.now.asks.items c.args.device c.in-Some.id c.index_mut.result.now c.end.new.self c.end.result c.args.asked (omega (arith, c.if-device-len.true, c.len.ensures)) c.index_mut.ensures.value c.in-Some.is c.end.ensures.ended

pub returns-else-device-len-clause-ends : goal.returns-else-device-len-clause-ends
returns-else-device-len-clause-ends c = idle_beyond c.args.self.now.asks.items c.args.device c.in-Some.id c.args.asked (omega (arith, c.if-device-len.false, c.len.ensures)) c.in-Some.is

pub returns-then-device-len-clause-bounded : goal.returns-then-device-len-clause-bounded
returns-then-device-len-clause-bounded c =
    let g = c.args.self.now in
    let a = c.index_mut.result.now in
    asks_set g.devices.list.items g.asks.items c.args.device a c.end.new.self (omega (arith, c.if-device-len.true, c.len.ensures)) c.index_mut.ensures.value c.end.ensures.at_once
    (ended_few a c.end.new.self c.in-Some.id c.end.result c.end.ensures.ended c.end.ensures.at_once)
