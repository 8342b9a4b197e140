use Rattle.std.proofs.Common.{◌∙◌, ◌∷◌, ap, arith, refl, slice_set}
use Rattle.snmp_gate.specs.Groups.{group_of, groups_of}
use Rattle.snmp_gate.proofs.GroupSteps.{group_at, groups_same, groups_set, on_err}
use Rattle.snmp_gate.proofs.requests.WaitingRequests.join.Goals as goal

pub returns-then-len-saturating_sub-clause-joined :
    goal.returns-then-len-saturating_sub-clause-joined
returns-then-len-saturating_sub-clause-joined g c =
    let r = c.index_mut-request.result.now in (
      group_of r,
      group_at c.args.self.now.list.items c.args.place r c.requires c.index_mut-request.ensures.value,
      omega (arith, c.if-len-saturating_sub.true, c.saturating_sub.ensures, c.len.ensures),
      groups_same c.args.self.now.list.items c.args.place r r c.index_mut-request.ensures.value refl,
    )

pub returns-in_err-push-clause-err : goal.returns-in_err-push-clause-err
returns-in_err-push-clause-err g c =
    let r = c.index_mut-request.result.now in
    on_err c.from_residual.result _ (groups_same c.args.self.now.list.items c.args.place r _ c.index_mut-request.ensures.value (λ i. record { number = r.number; messages = r.first ∷ c.in_err-push.ensures.items i; work = r.work }))

pub returns-clause-joined : goal.returns-clause-joined
returns-clause-joined g c =
    let r = c.index_mut-request.result.now in (
      group_of r,
      group_at c.args.self.now.list.items c.args.place r c.requires c.index_mut-request.ensures.value,
      omega (arith, c.if-len-saturating_sub.false, c.saturating_sub.ensures, c.len.ensures),
      groups_set c.args.self.now.list.items c.args.place _ ∙ ap (λ ms. slice_set (groups_of c.args.self.now.list.items) c.args.place (record { number = r.number; messages = r.first ∷ ms; work = r.work })) c.in_ok-push.ensures.items,
    )
