use Rattle.std.proofs.Common.{◌≡◌, ℕ, ◌<◌, ◌≤◌}
use Rattle.snmp_outgoing.specs.Counters.{counter_name}
use Rattle.snmp_manager.proofs.replies.counter_of.Given as goal

-- no counter below n has the name
abbrev pub invariant-loop-n : goal.invariant-loop-n
invariant-loop-n l = (k : ℕ) → 1 ≤ k → k < l.n → l.name ≡ counter_name k → ⊥
