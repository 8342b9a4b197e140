use Rattle.std.proofs.Common.{◌<◌, ℕ, slice_index_or}
use Rattle.usm_users.specs.declared.load.UserRow.{UserRow}
use Rattle.snmpsec_gate_config.specs.Receivers.{IsUserAtLevel}
use Rattle.snmpsec_gate_config.proofs.receiver.has_user_at_level.Given as goal

abbrev pub invariant-loop-user : goal.invariant-loop-user
invariant-loop-user l = (k : ℕ) (user : UserRow) → k < l.user-index → IsUserAtLevel l.receiver (slice_index_or l.users k user) → ⊥
