use Rattle.std.proofs.Common.{◌≡◌, map, take}
use Rattle.gate_handles.specs.Gates.{device_parts, device_said}
use Rattle.gate_handles.proofs.making.devices_of.Given as goal

abbrev pub invariant-loop-device : goal.invariant-loop-device
invariant-loop-device l = map device_parts l.devices.items ≡ map device_said (take l.device-index l.said)
