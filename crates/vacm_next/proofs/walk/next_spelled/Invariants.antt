use Rattle.std.proofs.Common.{ℕ, ◌≤◌, List, slice_index}
use Rattle.vacm_core.specs.Steps.{requester_of}
use Rattle.vacm_next.specs.Next.{Sees}
use Rattle.vacm_next.specs.Walk.{IsSeenFrom}
use Rattle.vacm_next.proofs.walk.next_spelled.Given as goal

abbrev pub invariant-loop-first : goal.invariant-loop-first
invariant-loop-first l = (other : List ℕ) → IsSeenFrom (Sees l.vacm (requester_of l.asking) l.asking.view) l.from other → l.first ≤ slice_index other 0
