use Rattle.std.proofs.Common.{◌≡◌, ◌∷◌, take}
use Rattle.std.specs.List.{flat_map}
use Rattle.snmp_ber.specs.Oid.{subidentifier}
use Rattle.snmp_ber.proofs.identifier.push_content.Given as goal

abbrev pub invariant-loop-arc : goal.invariant-loop-arc
invariant-loop-arc l = l.content.items ≡ flat_map subidentifier (l.first ∷ take l.arc-index l.others)
