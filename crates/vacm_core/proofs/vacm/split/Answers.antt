use Rattle.std.proofs.Common.{◌≡◌, ◌++◌, ◌∷◌, [], ap, ◌∙◌, refl}
use Rattle.vacm_core.proofs.Parts.{first_more, second_more, exact_more}
use Rattle.vacm_core.proofs.vacm.split.Goals as goal
use Rattle.vacm_core.proofs.vacm.split.Goals.{then-is_exact+in_ok-push, else-is_exact+in_ok-push-2}

pub loop-row-preserved : goal.loop-row-preserved
loop-row-preserved c =
    let rows = c.args.rows.now in
    let i = c.loop-row.row-index in
    let row = c.row-item.result in
    let exact = c.loop-row.exact.items in
    let others = c.loop-row.others.items in
    elim c.if-is_exact.branch [
      | then-is_exact+in_ok-push w ↦
          let items : c.if-is_exact.exact.items ≡ exact ++ row ∷ [] = ap (λ v. v.items) w.exact-is ∙ w.in_ok-push.ensures.items ∙ ap (λ r. exact ++ r ∷ []) w.copy.ensures in
          let same : c.if-is_exact.others.items ≡ others = ap (λ v. v.items) w.others-is in
          rw (items, same) (first_more rows i row c.loop-row-test.true c.row-item.is exact others c.loop-row.invariant.0, exact_more exact row c.loop-row.invariant.1 (w.if-is_exact.ensures.0 refl))
      | else-is_exact+in_ok-push-2 w ↦
          let items : c.if-is_exact.others.items ≡ others ++ row ∷ [] = ap (λ v. v.items) w.others-is ∙ w.in_ok-push-2.ensures.items ∙ ap (λ r. others ++ r ∷ []) (w.of.ensures ∙ w.copy-else-is_exact.ensures) in
          let same : c.if-is_exact.exact.items ≡ exact = ap (λ v. v.items) w.exact-is in
          rw (items, same) (second_more rows i row c.loop-row-test.true c.row-item.is exact others c.loop-row.invariant.0, c.loop-row.invariant.1)
    ]
