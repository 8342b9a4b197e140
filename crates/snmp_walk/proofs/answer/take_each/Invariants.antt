use Rattle.std.proofs.Common.{map}
use Rattle.std.specs.Vec.Iter.{into_iter_items}
use Rattle.snmp_responder.specs.Code.{seen_by}
use Rattle.snmp_walk.specs.Bindings.{given_says}
use Rattle.snmp_walk.proofs.Each.{TakenUpTo}
use Rattle.snmp_walk.proofs.answer.take_each.Given as goal

abbrev pub invariant-loop-column : goal.invariant-loop-column
invariant-loop-column l =
    TakenUpTo (seen_by l.viewer) l.initial.column-items l.column-index l.column-items (map given_says l.fn.given.items) (map given_says (into_iter_items l.left))
