use Rattle.std.proofs.Common.{◌++◌, List, sym, ap, subst, ◌∙◌, refl, append_assoc}
use Rattle.vacm_core.specs.declared.rows.FamilyRow.{FamilyRow}
use Rattle.vacm_core.specs.RowOrder.{AreFalling}
use Rattle.vacm_core.specs.Wildcard.{wildcard_order, AreAlike, IsDecider}
use Rattle.vacm_core.proofs.Wildcards.{falling_front, falling_rest}
use Rattle.vacm_core.proofs.view.deciding_row.Goals as goal

pub loop-rest-init : goal.loop-rest-init
loop-rest-init c = (c.args.exact.now, refl, c.best_of_exact-found.ensures, c.requires.others_falling)

pub best_of_alike-requires : goal.best_of_alike-requires
best_of_alike-requires c =
    let front = sym c.split_at.ensures.front in
    record {
      falling = subst (λ (rows : List FamilyRow). AreFalling wildcard_order rows) front (falling_front wildcard_order c.loop-rest.rest.now c.loop-rest.invariant.3 c.count_alike.result);
      alike = subst AreAlike front c.count_alike.ensures.alike;
    }

pub loop-rest-preserved : goal.loop-rest-preserved
loop-rest-preserved c =
    let seen = c.loop-rest.invariant.0 in
    let alike = c.split_at.result.0.now in
    let shorter = c.split_at.result.1.now in (
      seen ++ alike,
      c.loop-rest.invariant.1 ∙ ap (λ (rows : List FamilyRow). seen ++ rows) c.split_at.ensures.by_index.0 ∙ sym (append_assoc seen alike shorter),
      c.better-found.ensures c.args.variable.now seen alike c.loop-rest.invariant.2 c.best_of_alike.ensures,
      subst (λ (rows : List FamilyRow). AreFalling wildcard_order rows) (sym c.split_at.ensures.back) (falling_rest wildcard_order c.loop-rest.rest.now c.loop-rest.invariant.3 c.count_alike.result),
    )

pub returns : goal.returns
returns c =
    subst (λ (rows : List FamilyRow). IsDecider c.args.variable.now rows c.loop-rest.found) (sym c.loop-rest.invariant.1)
    (c.loop-rest-test.ensures c.args.variable.now c.loop-rest.invariant.0 c.loop-rest.invariant.2)
