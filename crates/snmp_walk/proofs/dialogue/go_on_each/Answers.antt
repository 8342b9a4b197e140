use Rattle.std.proofs.Common.{sym, subst, arith, List}
use Rattle.std.proofs.lemmas.List.{with_items_is}
use Rattle.snmp_responder.specs.Code.{seen_by}
use Rattle.snmp_walk.specs.Dialogue.{AllGoOn, ColumnGoesOn}
use Rattle.snmp_walk.specs.declared.column.Column.{Column}
use Rattle.snmp_walk.proofs.Changed.{one_changed, all_changed}
use Rattle.snmp_walk.proofs.dialogue.go_on_each.Goals as goal

pub loop-column-preserved : goal.loop-column-preserved
loop-column-preserved c =
    let went = c.go_on.ensures in
    one_changed (ColumnGoesOn (seen_by c.args.viewer.now)) c.deref_mut-column-items.result.now c.loop-column.column-items c.loop-column.column-index c.column-item.result c.go_on.new.self
    (omega (arith, c.loop-column-test.true, c.loop-column.auto.column-items)) c.loop-column.invariant
    (record { same = λ j. (went.operation j, went.first j); goes_on = went.goes_on })

pub returns : goal.returns
returns c =
    let seen = seen_by c.args.viewer.now in
    let olds = c.deref_mut-column-items.result.now in
    let now = c.loop-column.column-items in
    subst (λ (cs : List Column). AllGoOn seen c.args.columns.now.items cs) (sym (with_items_is c.args.columns.now now (omega (arith, c.loop-column.auto.column-items, c.deref_mut-column-items.ensures.len))))
    (subst (λ (cs : List Column). AllGoOn seen cs now) c.deref_mut-column-items.ensures.value
    (all_changed (ColumnGoesOn seen) olds now c.loop-column.column-index (omega (arith, c.loop-column-test.false, c.loop-column.auto.column-items)) c.loop-column.invariant))
