use Rattle.std.proofs.Common.{◌≡◌, ◌++◌, All, drop, map}
use Rattle.snmp_gate.specs.Bounds.{at_once_in, at_once_of}
use Rattle.snmp_gate.specs.Waiting.{AsksNothing}
use Rattle.snmp_gate.proofs.gate.asks_of.Given as goal

abbrev pub invariant-loop-device : goal.invariant-loop-device
invariant-loop-device l = record {
  none : All AsksNothing l.asks.items;
  at_once : map at_once_of l.devices ≡ map at_once_in l.asks.items ++ map at_once_of (drop l.device-index l.devices);
}
