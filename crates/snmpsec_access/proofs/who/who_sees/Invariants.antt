use Rattle.std.proofs.Common.{take, [], map}
use Rattle.std.specs.List.{flat_map}
use Rattle.vacm_core.specs.Tables.{tables_of}
use Rattle.snmpsec_access.specs.Askers.{of_view}
use Rattle.snmpsec_access.specs.WhoSees.{SeesIt, GoesOn, asker_of}
use Rattle.snmpsec_access.proofs.who.who_sees.Given as goal

abbrev pub invariant-loop-view : goal.invariant-loop-view
invariant-loop-view l = GoesOn (SeesIt l.wanted) (flat_map (of_view (tables_of l.wanted.rows.now)) (take l.view-index l.views)) [] (map asker_of l.out.items)
