use Rattle.std.proofs.Common.{List, get_or, ap, ◌∙◌, arith, map}
use Rattle.vacm_core.specs.declared.rows.GroupRow.{GroupRow}
use Rattle.snmpsec_access.specs.Askers.{of_group}
use Rattle.snmpsec_access.specs.WhoSees.{SeesIt, GoesOn, asker_of}
use Rattle.snmpsec_access.proofs.Seeing.{nothing, goes_on}
use Rattle.snmpsec_access.proofs.Walks.{many_more}
use Rattle.snmpsec_access.proofs.who.put_view.Goals as goal

pub loop-group-preserved : goal.loop-group-preserved
loop-group-preserved c =
    let row = c.group-item.result in
    let i = c.loop-group.group-index in
    let at = c.group-item.is ∙ ap (λ (rows : List GroupRow). get_or rows i row) c.deref-group-items.ensures.value in
    many_more (GoesOn (SeesIt c.args.wanted.now)) (nothing (SeesIt c.args.wanted.now)) (goes_on (SeesIt c.args.wanted.now)) (of_group c.args.wanted.now.rows.now.contexts.items c.args.view) c.args.wanted.now.rows.now.groups.items i row
    (map asker_of c.args.out.now.items) (map asker_of c.loop-group.out.items) _ (omega arith) at c.loop-group.invariant c.in_ok-put_group.ensures
