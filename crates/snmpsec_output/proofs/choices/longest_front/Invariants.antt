use Rattle.std.proofs.Common.{◌≡◌, ◌≤◌, ◌+◌, length}
use Rattle.snmpsec_output.proofs.choices.longest_front.Given as goal

abbrev pub invariant-loop-at : goal.invariant-loop-at
invariant-loop-at l =
    (l.longest.first ≡ 0) × (l.longest.len ≤ length l.first) × (l.longest.second + l.longest.len ≤ length l.second)
