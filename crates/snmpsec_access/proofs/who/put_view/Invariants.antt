use Rattle.std.proofs.Common.{take, map}
use Rattle.std.specs.List.{flat_map}
use Rattle.snmpsec_access.specs.Askers.{of_group}
use Rattle.snmpsec_access.specs.WhoSees.{SeesIt, GoesOn, asker_of}
use Rattle.snmpsec_access.proofs.who.put_view.Given as goal

abbrev pub invariant-loop-group : goal.invariant-loop-group
invariant-loop-group l = GoesOn (SeesIt l.wanted) (flat_map (of_group l.wanted.rows.now.contexts.items l.view) (take l.group-index l.wanted.rows.now.groups.items)) (map asker_of l.fn.out.items) (map asker_of l.out.items)
