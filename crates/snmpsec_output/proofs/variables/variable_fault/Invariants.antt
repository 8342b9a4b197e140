use Rattle.std.proofs.Common.{Bor, ◌≡◌, ℕ, ◌<◌, ◌^◌, List, length, decimal}
use Rattle.std.specs.Prelude.{map}
use Rattle.std.specs.List.{AllByRecursion}
use Rattle.snmpsec_output.proofs.variables.variable_fault.Given as goal

-- the parts so far are numbers
abbrev pub invariant-loop-part : goal.invariant-loop-part
invariant-loop-part l = record {
  ready : (goal.iterator-loop-part).can_next l.part-iterator;
  ends : (goal.iterator-loop-part).is_finite l.part-iterator;
  numbers : (arcs : List ℕ) × (map decimal arcs ≡ map (λ (part : Bor (List ℕ)). part.now) l.yielded) × AllByRecursion (λ arc. arc < 2 ^ 32) arcs;
  count : l.count ≡ length l.yielded;
}
