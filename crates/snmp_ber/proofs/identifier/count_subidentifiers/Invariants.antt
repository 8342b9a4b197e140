use Rattle.std.proofs.Common.{◌≡◌, ◌≤◌, drop, length}
use Rattle.std.specs.Prelude.{option_map}
use Rattle.snmp_ber.specs.Oid.{subidentifiers_in}
use Rattle.snmp_ber.proofs.Oids.{counted}
use Rattle.snmp_ber.proofs.identifier.count_subidentifiers.Given as goal

abbrev pub invariant-loop-octet : goal.invariant-loop-octet
invariant-loop-octet l =
    (counted l.count (subidentifiers_in l.so_far (drop l.octet-index l.content)) ≡ option_map length (subidentifiers_in 0 l.content))
    × (l.count ≤ 127)
