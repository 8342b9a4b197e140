use Rattle.std.proofs.Common.{◌≡◌, false, sym, ap, ◌∙◌, refl}
use Rattle.std.specs.Cmp.Lexicographic.{slice_cmp}
use Rattle.std.specs.Ordering.{nat_cmp, ordering_then, is_ne}
use Rattle.std.specs.declared.cmp.Ordering.{Ordering}
use Rattle.std.specs.declared.cmp.Ordering.TheVariants.{Less, Equal, Greater}
use Rattle.vacm_core.specs.declared.rows.FamilyRow.{FamilyRow}
use Rattle.vacm_core.specs.Wildcard.{compared_arcs, shape_order}
use Rattle.vacm_core.proofs.Wildcards.{ranked_by}
use Rattle.vacm_core.proofs.wildcard.WildcardRowNamedRow.ranking.Goals as goal

same : (o : Ordering) → false ≡ is_ne o → o ≡ Equal
same Less h = cc
same Equal h = refl
same Greater h = cc

pub returns : goal.returns
returns c =
    let a = c.args.self.now in
    let b = c.args.other.now in
    let first = c.as_slice-first.ensures.value ∙ ap (λ (r : FamilyRow). r.subtree) c.self.view_is in
    let second = c.as_slice-second.ensures.value ∙ ap (λ (r : FamilyRow). r.subtree) c.other.view_is in
    let mask = ap (λ (r : FamilyRow). r.mask) c.self.view_is in
    let shape : shape_order a b ≡ Equal = sym c.shape_order-by_shape.ensures ∙ same _ c.if-is_ne.ensures in
    let compared =
    c.compared_order.ensures
    ∙ ap (λ m. slice_cmp nat_cmp (compared_arcs m c.as_slice-first.result.now) (compared_arcs m c.as_slice-second.result.now)) mask
    ∙ ap (λ xs. slice_cmp nat_cmp (compared_arcs a.mask xs) (compared_arcs a.mask c.as_slice-second.result.now)) first
    ∙ ap (λ xs. slice_cmp nat_cmp (compared_arcs a.mask a.subtree) (compared_arcs a.mask xs)) second in
    let arcs = c.cmp.ensures ∙ ap (λ xs. slice_cmp nat_cmp xs c.as_slice-second.result.now) first ∙ ap (slice_cmp nat_cmp a.subtree) second in
    c.then.ensures ∙ ap (λ o. ordering_then o c.cmp.result) compared
    ∙ ap (ordering_then (slice_cmp nat_cmp (compared_arcs a.mask a.subtree) (compared_arcs a.mask b.subtree))) arcs ∙ sym (ranked_by a b shape)
