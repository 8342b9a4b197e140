use Rattle.std.proofs.Common.{◌≡◌, ℕ, [], map, take}
use Rattle.std.specs.Global.{Vec}
use Rattle.std.specs.List.{fold}
use Rattle.listener_handles.specs.Rules.{with_name}
use Rattle.listener_handles.proofs.rules.viewed_of.Given as goal

abbrev pub invariant-loop-row : goal.invariant-loop-row
invariant-loop-row l = map (λ (v : Vec ℕ). v.items) l.names.items ≡ fold (with_name l.fn.rows.access.items) [] (take l.row-index l.fn.rows.groups.items)
