use Rattle.std.proofs.Common.{◌<◌, ℕ, slice_index_or}
use Rattle.vacm_core.specs.declared.rows.AccessRow.{AccessRow}
use Rattle.snmpsec_gate_config.specs.Oddities.{Fits}
use Rattle.snmpsec_gate_config.proofs.oddity.first_fit.Given as goal

abbrev pub invariant-loop-position : goal.invariant-loop-position
invariant-loop-position l = (k : ℕ) (row : AccessRow) → k < l.position → Fits l.device (slice_index_or l.access k row) → ⊥
