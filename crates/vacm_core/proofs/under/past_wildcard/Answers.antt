use Rattle.std.proofs.Common.{◌≡◌, ◌<◌, List, ℕ, length, take, sym, ap, subst, ◌∙◌}
use Rattle.std.specs.Cmp.Lexicographic.{slice_cmp}
use Rattle.std.specs.Ordering.{nat_cmp}
use Rattle.std.specs.declared.cmp.Ordering.{Ordering}
use Rattle.std.specs.declared.cmp.Ordering.TheVariants.{Less, Greater}
use Rattle.vacm_core.specs.declared.rows.FamilyRow.{FamilyRow}
use Rattle.vacm_core.specs.Wildcard.{compared_arcs}
use Rattle.vacm_core.proofs.Wildcards.{parted}
use Rattle.vacm_core.proofs.Shapes.{parted_alike, none_greater, greater_on, none_less, less_on}
use Rattle.vacm_core.proofs.under.past_wildcard.Goals as goal

-- the comparison of the row's own first arcs
of_row : (first row again : FamilyRow) (arcs w : List ℕ) (o p : Ordering) → row ≡ first → again ≡ first → arcs ≡ row.subtree
    → o ≡ slice_cmp nat_cmp (compared_arcs again.mask (take (length w) arcs)) (compared_arcs again.mask w) → o ≡ p
    → slice_cmp nat_cmp (compared_arcs first.mask (take (length w) first.subtree)) (compared_arcs first.mask w) ≡ p
of_row first row again arcs w o p is_row is_again is_arcs compared is =
    let h : slice_cmp nat_cmp (compared_arcs again.mask (take (length w) arcs)) (compared_arcs again.mask w) ≡ p = sym compared ∙ is in
    let by_mask = subst (λ (r : FamilyRow). slice_cmp nat_cmp (compared_arcs r.mask (take (length w) arcs)) (compared_arcs r.mask w) ≡ p) is_again h in
    subst (λ (xs : List ℕ). slice_cmp nat_cmp (compared_arcs first.mask (take (length w) xs)) (compared_arcs first.mask w) ≡ p)
    (is_arcs ∙ ap (λ (r : FamilyRow). r.subtree) is_row) by_mask

pub count_before_alike-requires : goal.count_before_alike-requires
count_before_alike-requires c =
    let longer = subst (λ (r : FamilyRow). length c.args.beginning.now < length r.subtree) (sym c.index-rows-at.is) (c.requires.longer c.index-rows-at.result) in
    parted_alike c.args.rows.now c.requires.falling c.args.beginning.now c.index-rows-at.result longer

pub count_upto-requires : goal.count_upto-requires
count_upto-requires c = parted c.args.rows.now c.index-rows-at.result c.requires.falling

pub returns-in-Greater : goal.returns-in-Greater
returns-in-Greater c =
    let rows = c.args.rows.now in
    let w = c.args.beginning.now in
    let first = c.index-rows-at.result in
    let longer = subst (λ (r : FamilyRow). length w < length r.subtree) (sym c.index-rows-at.is) (c.requires.longer first) in
    let greater = of_row first c.row.result.now c.row-2.result.now c.as_slice.result.now w c.compared_order.result Greater c.row.ensures c.row-2.ensures c.as_slice.ensures.value c.compared_order.ensures c.in-Greater.is in
    let next = c.count_before_alike.result in (
      greater_on rows c.requires.falling w c.args.at first c.requires.within c.index-rows-at.is longer next greater c.count_before_alike.ensures.point,
      c.count_before_alike.ensures.within,
      none_greater rows c.requires.falling w c.args.at first c.requires.within c.index-rows-at.is longer next c.count_before_alike.ensures.within c.count_before_alike.ensures.point,
    )

pub returns-in-Less : goal.returns-in-Less
returns-in-Less c =
    let rows = c.args.rows.now in
    let w = c.args.beginning.now in
    let first = c.index-rows-at.result in
    let longer = subst (λ (r : FamilyRow). length w < length r.subtree) (sym c.index-rows-at.is) (c.requires.longer first) in
    let less = of_row first c.row.result.now c.row-2.result.now c.as_slice.result.now w c.compared_order.result Less c.row.ensures c.row-2.ensures c.as_slice.ensures.value c.compared_order.ensures c.in-Less.is in
    let next = c.count_upto.result in (
      less_on rows c.requires.falling w c.args.at first c.requires.within c.index-rows-at.is longer next c.count_upto.ensures.point,
      c.count_upto.ensures.within,
      none_less rows c.requires.falling w c.args.at first c.requires.within c.index-rows-at.is longer next c.count_upto.ensures.within less c.count_upto.ensures.point,
    )
