use Rattle.std.proofs.Common.{Bor, ◌≡◌, ℕ, ◌<◌, ◌≤◌, ◌^◌, List, length, decimal}
use Rattle.std.specs.Prelude.{map}
use Rattle.std.specs.List.{AllByRecursion}
use Rattle.snmp_ber.proofs.oid.Oid.from_text.Given as goal

abbrev pub invariant-loop-arc : goal.invariant-loop-arc
invariant-loop-arc l = record {
  ready : (goal.iterator-loop-arc).can_next l.arc-iterator;
  ends : (goal.iterator-loop-arc).is_finite l.arc-iterator;
  same : map decimal l.arcs.items ≡ map (λ (piece : Bor (List ℕ)). piece.now) l.yielded;
  limit : AllByRecursion (λ arc. arc < 2 ^ 32) l.arcs.items;
  most : length l.arcs.items ≤ 128;
}
