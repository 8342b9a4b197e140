use Rattle.std.proofs.Common.{◌≡◌, ℕ, ◌<◌, length, get_or, false}
use Rattle.vacm_core.proofs.explain.position_of.Given as goal

abbrev pub invariant-loop-position : goal.invariant-loop-position
invariant-loop-position g l = (k : ℕ) (d : g.row.R.Denot) → k < l.position → k < length l.rows → g.R.TableRow.is_same (get_or l.rows k d) l.row ≡ false
