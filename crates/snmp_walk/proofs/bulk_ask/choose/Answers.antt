use Rattle.std.proofs.Common.{◌↔◌, ◌<◌, ◌∙◌, arith, subst, length, IsTrue}
use Rattle.snmp_walk.specs.BulkAsk.{IsDue, StaysOrWaits}
use Rattle.snmp_walk.specs.declared.bulk_column.BulkColumn.{BulkColumn}
use Rattle.snmp_walk.proofs.BulkReads.{at_any}
use Rattle.snmp_walk.proofs.Choices.{chosen_within, one_chosen}
use Rattle.snmp_walk.proofs.bulk_ask.choose.Goals as goal

pub loop-number-preserved : goal.loop-number-preserved
loop-number-preserved c =
    let now = c.loop-number.columns.items in
    let i = c.loop-number.number in
    let column = c.index_mut.result.now in
    let within : i < length now =
    chosen_within c.args.non_repeaters c.args.fewest c.args.room c.args.columns.now.items i c.loop-number.left now
    (omega (arith, c.loop-number-test.true, c.loop-number.auto.number-end, c.len-number-end.ensures, c.args.columns.now.ok.0)) c.loop-number.invariant in
    one_chosen c.args.non_repeaters c.args.fewest c.args.room c.args.columns.now.items i c.loop-number.left now column c.stay_or_wait-left.new.column c.is_due-due.result c.stay_or_wait-left.result
    within c.loop-number.invariant
    (subst (λ (x : BulkColumn). IsTrue c.is_due-due.result ↔ IsDue c.args.non_repeaters c.args.fewest i x) (c.index.ensures ∙ at_any now i c.index.result.now column within) c.is_due-due.ensures)
    (subst (λ (x : BulkColumn). StaysOrWaits c.is_due-due.result c.loop-number.left x c.stay_or_wait-left.new.column c.stay_or_wait-left.result) c.index_mut.ensures.value c.stay_or_wait-left.ensures)
