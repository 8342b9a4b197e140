use Rattle.std.proofs.Common.{◌≡◌, true, rules, sym, subst, arith}
use Rattle.std.proofs.lemmas.List.{take_all, length-map}
use Rattle.std.specs.Borrow.{Bor}
use Rattle.vacm_core.specs.declared.rows.FamilyRow.{FamilyRow}
use Rattle.vacm_core.specs.View.{AreExact}
use Rattle.snmpsec_access.specs.Rising.{rows_at}
use Rattle.snmpsec_access.proofs.Picks.{items_more, exact_more}
use Rattle.snmpsec_access.proofs.subtrees.are_exact.Goals as goal

pub loop-row-preserved : goal.loop-row-preserved
loop-row-preserved c =
    let exact : c.is_exact.result ≡ true = search rules in
    subst AreExact (sym (items_more c.args.rows.now c.loop-row.row-index c.row-item.result c.loop-row-test.true c.row-item.is))
    (exact_more _ c.row-item.result.now (c.is_exact.ensures.0 exact) c.loop-row.invariant)

pub returns : goal.returns
returns c =
    subst AreExact
    (take_all c.loop-row.row-index (rows_at c.args.rows.now) (let long = length-map c.args.rows.now (λ (r : Bor FamilyRow). r.now) in omega (arith, long, c.loop-row-test.false)))
    c.loop-row.invariant
