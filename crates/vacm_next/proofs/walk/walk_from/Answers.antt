use Rattle.std.proofs.Common.{List, ℕ, sym, subst}
use Rattle.vacm_core.specs.Allowed.{Requester}
use Rattle.vacm_next.specs.Next.{Sees}
use Rattle.vacm_next.specs.Walk.{ComesAfter, IsLeastOf}
use Rattle.vacm_next.proofs.Walks.{walks, passes}
use Rattle.vacm_next.proofs.walk.walk_from.Goals as goal

pub returns-in-Some-next_spelled-clause-place : goal.returns-in-Some-next_spelled-clause-place
returns-in-Some-next_spelled-clause-place c =
    let q : Requester = record { model = c.args.model; name = c.args.name.now; level = c.args.level; context = c.args.context.now } in
    let start = c.as_slice-3.result.now in
    let is_start : IsLeastOf (ComesAfter c.args.after.now) start =
    subst (λ (xs : List ℕ). IsLeastOf (ComesAfter xs) start) c.as_slice-2.ensures.value (subst (IsLeastOf (ComesAfter c.as_slice-2.result.now)) (sym c.as_slice-3.ensures.value) c.in-Some.ensures) in
    walks (Sees c.args.vacm.now q c.args.view) c.args.after.now start is_start c.in-Some-next_spelled.next c.place_between.result c.in-Some-next_spelled.ensures c.place_between.ensures

pub returns-in-Some-next_spelled-clause-passes_nothing :
    goal.returns-in-Some-next_spelled-clause-passes_nothing
returns-in-Some-next_spelled-clause-passes_nothing c =
    let q : Requester = record { model = c.args.model; name = c.args.name.now; level = c.args.level; context = c.args.context.now } in
    passes (Sees c.args.vacm.now q c.args.view) c.args.after.now c.place_between.result (returns-in-Some-next_spelled-clause-place c)
