use Rattle.std.proofs.Common.{◌≡◌, ℕ, ◌<◌}
use Rattle.vacm_core.specs.Allowed.{mask_bit}
use Rattle.vacm_core.proofs.rows.FamilyRow.is_exact.Given as goal

abbrev pub invariant-loop-k : goal.invariant-loop-k
invariant-loop-k l = (i : ℕ) → i < l.k → mask_bit l.self.mask i ≡ 1
