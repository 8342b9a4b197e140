use Rattle.std.proofs.Common.{◌≡◌, [], take}
use Rattle.std.specs.List.{fold}
use Rattle.snmpsec_gate_config.specs.Views.{AreKnown, with_view}
use Rattle.snmpsec_gate_config.proofs.view.views_without_family.Given as goal

abbrev pub invariant-loop-row : goal.invariant-loop-row
invariant-loop-row l = AreKnown l.fn.rows.families.items l.views.items l.known
    × (l.views.items ≡ fold (with_view l.fn.rows.families.items) [] (take l.row-index l.fn.rows.access.items))
