use Rattle.std.proofs.Common.{[], arith, map}
use Rattle.vacm_core.specs.Tables.{tables_of}
use Rattle.snmpsec_access.specs.Askers.{of_view}
use Rattle.snmpsec_access.specs.WhoSees.{SeesIt, GoesOn, asker_of}
use Rattle.snmpsec_access.proofs.Seeing.{nothing, goes_on}
use Rattle.snmpsec_access.proofs.Walks.{many_at}
use Rattle.snmpsec_access.proofs.who.who_sees.Goals as goal

pub loop-view-preserved : goal.loop-view-preserved
loop-view-preserved c =
    many_at (GoesOn (SeesIt c.args.wanted.now)) (nothing (SeesIt c.args.wanted.now)) (goes_on (SeesIt c.args.wanted.now)) (of_view (tables_of c.args.wanted.now.rows.now)) c.args.views.now c.loop-view.view-index _ [] (map asker_of c.loop-view.out.items) _ (omega arith) c.loop-view.invariant c.in_ok-put_view.ensures
