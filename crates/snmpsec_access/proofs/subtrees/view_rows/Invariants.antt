use Rattle.std.proofs.Common.{◌≡◌, take}
use Rattle.snmpsec_access.specs.Seen.{rows_of}
use Rattle.snmpsec_access.specs.Rising.{rows_at}
use Rattle.snmpsec_access.proofs.subtrees.view_rows.Given as goal

abbrev pub invariant-loop-row : goal.invariant-loop-row
invariant-loop-row l = rows_at l.picked.items ≡ rows_of (take l.row-index l.rows) l.view
