use Rattle.std.proofs.Common.{◌≡◌, List, ℕ, false, true, refl}
use Rattle.vacm_core.specs.Steps.{requester_of}
use Rattle.vacm_next.specs.Next.{Sees}
use Rattle.vacm_next.proofs.Walks.{none_low, least_spelled, none_lower}
use Rattle.vacm_next.proofs.walk.next_spelled.Goals as goal

pub returns-in_default : goal.returns-in_default
returns-in_default c =
    let seen : List ℕ → Type 0 = Sees c.args.vacm.now (requester_of c.args.asking.now) c.args.asking.now.view in
    none_low seen c.args.from.now c.later.result.now c.loop-first.first c.later.ensures c.loop-first.invariant c.in_default.ensures

pub returns-then-is_object_id : goal.returns-then-is_object_id
returns-then-is_object_id c =
    let seen : List ℕ → Type 0 = Sees c.args.vacm.now (requester_of c.args.asking.now) c.args.asking.now.view in
    least_spelled seen c.args.from.now c.later.result.now c.loop-first.first c.later.ensures c.in-Some.next c.in-Some.ensures c.loop-first.invariant (c.if-is_object_id.ensures.0 refl)

pub loop-first-preserved : goal.loop-first-preserved
loop-first-preserved c =
    let seen : List ℕ → Type 0 = Sees c.args.vacm.now (requester_of c.args.asking.now) c.args.asking.now.view in
    none_lower seen c.args.from.now c.later.result.now c.loop-first.first c.later.ensures c.in-Some.next c.in-Some.ensures c.loop-first.invariant
    (λ spelled. let e : false ≡ true = c.if-is_object_id.ensures.1 spelled in cc)
