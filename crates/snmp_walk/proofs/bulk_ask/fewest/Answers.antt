use Rattle.std.proofs.Common.{◌+◌, refl, sym, subst, ℕ, Option, length}
use Rattle.snmp_walk.specs.Column.{IsAsked}
use Rattle.snmp_walk.specs.declared.bulk_column.BulkColumn.{BulkColumn}
use Rattle.snmp_walk.proofs.Choices.{FewestSoFar, IsLesser, fewest_more, fewest_stays}
use Rattle.snmp_walk.proofs.bulk_ask.fewest.Goals.{then-is_asked, else-is_asked}
use Rattle.snmp_walk.proofs.bulk_ask.fewest.Goals as goal

pub loop-column-preserved : goal.loop-column-preserved
loop-column-preserved c =
    let cs = c.args.columns.now in
    let i = c.loop-column.column-index in
    let column = c.column-item.result in
    elim c.if-is_asked.branch [
      | then-is_asked w ↦ subst (λ (found : Option ℕ). FewestSoFar cs (i + 1) found) (sym w.fewest-is)
          (fewest_more cs i c.loop-column.fewest column w.lesser.result c.loop-column-test.true c.loop-column.invariant
          (subst (λ (x : BulkColumn). IsAsked x.progress) c.column-item.is (w.if-is_asked.ensures.0 refl))
          (subst (λ (x : BulkColumn). IsLesser c.loop-column.fewest (length x.got.items) w.lesser.result) c.column-item.is (subst (λ n. IsLesser c.loop-column.fewest n w.lesser.result) w.count.ensures w.lesser.ensures)))
      | else-is_asked w ↦ subst (λ (found : Option ℕ). FewestSoFar cs (i + 1) found) (sym w.fewest-is)
          (fewest_stays cs i c.loop-column.fewest column c.loop-column-test.true c.loop-column.invariant
          (λ asked. cc (w.if-is_asked.ensures.1 (subst (λ (x : BulkColumn). IsAsked x.progress) (sym c.column-item.is) asked))))
    ]
