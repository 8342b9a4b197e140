use Rattle.std.proofs.Common.{List, get_or, ap, ◌∙◌, arith, map}
use Rattle.vacm_core.specs.declared.rows.ContextRow.{ContextRow}
use Rattle.snmpsec_access.specs.Askers.{asker}
use Rattle.snmpsec_access.specs.WhoSees.{SeesIt, GoesOn, asker_of}
use Rattle.snmpsec_access.proofs.Seeing.{nothing, goes_on, none_sees}
use Rattle.snmpsec_access.proofs.Walks.{one_more}
use Rattle.snmpsec_access.proofs.who.put_level.Goals as goal

pub returns-then-not-is_wanted : goal.returns-then-not-is_wanted
returns-then-not-is_wanted c =
    none_sees (SeesIt c.args.wanted.now) (asker c.args.view c.args.group.now c.args.level) c.args.wanted.now.rows.now.contexts.items (map asker_of c.args.out.now.items)
    (λ context may. c.if-not-is_wanted.ensures may.wanted)

pub loop-context-preserved : goal.loop-context-preserved
loop-context-preserved c =
    let row = c.context-item.result in
    let i = c.loop-context.context-index in
    let at = c.context-item.is ∙ ap (λ (rows : List ContextRow). get_or rows i row) c.deref-context-items.ensures.value in
    one_more (GoesOn (SeesIt c.args.wanted.now)) (nothing (SeesIt c.args.wanted.now)) (goes_on (SeesIt c.args.wanted.now)) (asker c.args.view c.args.group.now c.args.level) c.args.wanted.now.rows.now.contexts.items i row
    (map asker_of c.args.out.now.items) (map asker_of c.loop-context.out.items) _ (omega arith) at c.loop-context.invariant c.in_ok-put_allowed.ensures
