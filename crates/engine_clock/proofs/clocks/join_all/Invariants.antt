use Rattle.std.proofs.Common.{◌≡◌, ℕ, List}
use Rattle.std.specs.Map.{keys_of}
use Rattle.std.specs.List.Sorted.{IsStrictlySortedBy}
use Rattle.engine_clock.specs.Engines.{engine_cmp}
use Rattle.std.specs.FinMap.{from_entries}
use Rattle.engine_clock.specs.Marks.{HoldsAll}
use Rattle.engine_clock.proofs.Absorbing.{after_all, AllHeld}
use Rattle.engine_clock.proofs.clocks.join_all.Given as goal

-- the marks that are left, come in now, make what all of them make that come in at the beginning
abbrev pub invariant-loop-engine : goal.invariant-loop-engine
invariant-loop-engine l = record {
  sorted : IsStrictlySortedBy engine_cmp (keys_of l.engine-iterator);
  held : HoldsAll l.initial.clocks (from_entries l.marks.entries) → AllHeld l.clocks l.engine-iterator;
  whole : (q : List ℕ) → after_all l.engine-iterator l.clocks q ≡ after_all l.marks.entries l.initial.clocks q;
}
