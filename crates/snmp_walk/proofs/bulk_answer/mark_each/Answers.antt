use Rattle.std.proofs.Common.{sym, subst, arith, List}
use Rattle.std.specs.List.{AllZip}
use Rattle.std.proofs.lemmas.List.{with_items_is}
use Rattle.snmp_walk.specs.BulkSteps.{IsMarked}
use Rattle.snmp_walk.specs.declared.bulk_column.BulkColumn.{BulkColumn}
use Rattle.snmp_walk.proofs.Changed.{one_changed, all_changed}
use Rattle.snmp_walk.proofs.bulk_answer.mark_each.Goals as goal

pub loop-column-preserved : goal.loop-column-preserved
loop-column-preserved c =
    one_changed IsMarked c.deref_mut-column-items.result.now c.loop-column.column-items c.loop-column.column-index c.column-item.result c.mark.new.self
    (omega (arith, c.loop-column-test.true, c.loop-column.auto.column-items)) c.loop-column.invariant c.mark.ensures

pub returns : goal.returns
returns c =
    let olds = c.deref_mut-column-items.result.now in
    let now = c.loop-column.column-items in
    subst (λ (cs : List BulkColumn). AllZip IsMarked c.args.columns.now.items cs) (sym (with_items_is c.args.columns.now now (omega (arith, c.loop-column.auto.column-items, c.deref_mut-column-items.ensures.len))))
    (subst (λ (cs : List BulkColumn). AllZip IsMarked cs now) c.deref_mut-column-items.ensures.value
    (all_changed IsMarked olds now c.loop-column.column-index (omega (arith, c.loop-column-test.false, c.loop-column.auto.column-items)) c.loop-column.invariant))
