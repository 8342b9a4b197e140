use Rattle.std.proofs.Common.{refl, arith, sym, ◌∙◌}
use Rattle.vacm_core.proofs.Wildcards.{order_at, order_of_lengths}
use Rattle.vacm_core.proofs.wildcard.compared_order.Goals as goal

pub returns-then-first-k : goal.returns-then-first-k
returns-then-first-k c =
    let shared = c.min-shared.ensures in
    let within = c.loop-k-test.true in
    c.cmp.ensures
    ∙ sym (order_at c.args.mask.now c.args.first.now c.args.second.now c.loop-k.k (omega arith) (omega arith) c.loop-k.invariant (c.if-compares.ensures.0 refl) c.if-first-k.true)

pub returns : goal.returns
returns c =
    let shared = c.min-shared.ensures in
    let past = c.loop-k-test.false in
    c.cmp-2.ensures
    ∙ sym (order_of_lengths c.args.mask.now c.args.first.now c.args.second.now c.loop-k.k (λ j a b. omega (arith, a, b)) c.loop-k.invariant)
