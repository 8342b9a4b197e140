use Rattle.std.proofs.Common.{◌≡◌, ◌++◌, take}
use Rattle.std.specs.List.{flat_map}
use Rattle.snmpsec_access.specs.NameText.{escaped_octet}
use Rattle.snmpsec_access.proofs.names_printed.put_octets.Given as goal

abbrev pub invariant-loop-octet : goal.invariant-loop-octet
invariant-loop-octet l = l.out.items ≡ l.fn.out.items ++ flat_map escaped_octet (take l.octet-index l.name)
