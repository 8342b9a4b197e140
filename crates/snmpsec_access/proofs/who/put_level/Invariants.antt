use Rattle.std.proofs.Common.{take, map}
use Rattle.snmpsec_access.specs.Askers.{asker}
use Rattle.snmpsec_access.specs.WhoSees.{SeesIt, GoesOn, asker_of}
use Rattle.snmpsec_access.proofs.who.put_level.Given as goal

abbrev pub invariant-loop-context : goal.invariant-loop-context
invariant-loop-context l = GoesOn (SeesIt l.wanted) (map (asker l.view l.group l.level) (take l.context-index l.wanted.rows.now.contexts.items)) (map asker_of l.fn.out.items) (map asker_of l.out.items)
