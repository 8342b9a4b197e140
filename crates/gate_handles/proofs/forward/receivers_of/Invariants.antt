use Rattle.std.proofs.Common.{◌≡◌, map, take}
use Rattle.std.specs.Prelude.{All}
use Rattle.snmp_forward.specs.Receivers.{IsShort}
use Rattle.gate_handles.specs.Forwards.{receiver_parts, receiver_said}
use Rattle.gate_handles.proofs.forward.receivers_of.Given as goal

abbrev pub invariant-loop-receiver : goal.invariant-loop-receiver
invariant-loop-receiver l = (map receiver_parts l.list.items ≡ map receiver_said (take l.receiver-index l.said)) × All IsShort l.list.items
