use Rattle.std.proofs.Common.{ℕ, List, [], ◌∷◌, get_or, map, ap, ◌∙◌, subst, arith}
use Rattle.vacm_core.specs.Tables.{tables_of}
use Rattle.vacm_core.specs.declared.rows.ContextRow.{ContextRow}
use Rattle.snmpsec_access.specs.declared.viewer.Seen.{Seen}
use Rattle.snmpsec_access.specs.Seen.{viewer}
use Rattle.snmpsec_access.specs.Rising.{SeesOn, decided_of}
use Rattle.snmpsec_access.proofs.Seens.{nothing_seen, sees_on}
use Rattle.snmpsec_access.proofs.Walks.{one_more}
use Rattle.snmpsec_access.proofs.viewer.put_view.Goals as goal

pub loop-context-preserved : goal.loop-context-preserved
loop-context-preserved c =
    let seen = λ (items : List Seen). map (decided_of c.args.who.now.model c.args.who.now.name.now) items in
    let t = tables_of c.args.who.now.rows.now in
    let row = c.context-item.result in
    let i = c.loop-context.context-index in
    let at = c.context-item.is ∙ ap (λ (rows : List ContextRow). get_or rows i row) c.deref-context-items.ensures.value in
    let asked =
    subst (λ (context : List ℕ). SeesOn t (record { message = record { model = c.args.who.now.model; name = c.args.who.now.name.now; level = c.args.level; context = context }; view = c.args.view } ∷ []) (seen c.loop-context.out.items) (seen c.put_asked.new.out.items))
    c.as_slice.ensures.octets c.in_ok-put_asked.ensures in
    one_more (SeesOn t) (nothing_seen t) (sees_on t) (viewer c.args.who.now.model c.args.who.now.name.now c.args.level c.args.view) c.args.who.now.rows.now.contexts.items i row
    (seen c.args.out.now.items) (seen c.loop-context.out.items) _ (omega arith) at c.loop-context.invariant asked
