use Rattle.std.proofs.Common.{take, map}
use Rattle.vacm_core.specs.Tables.{tables_of}
use Rattle.snmpsec_access.specs.Seen.{viewer}
use Rattle.snmpsec_access.specs.Rising.{SeesOn, decided_of}
use Rattle.snmpsec_access.proofs.viewer.put_view.Given as goal

abbrev pub invariant-loop-context : goal.invariant-loop-context
invariant-loop-context l =
    SeesOn (tables_of l.who.rows.now) (map (viewer l.who.model l.who.name.now l.level l.view) (take l.context-index l.who.rows.now.contexts.items))
    (map (decided_of l.who.model l.who.name.now) l.fn.out.items) (map (decided_of l.who.model l.who.name.now) l.out.items)
