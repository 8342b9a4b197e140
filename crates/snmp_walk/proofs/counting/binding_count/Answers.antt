use Rattle.std.proofs.Common.{◌≡◌, ◌∙◌, ◌+◌, ◌-◌, ◌^◌, refl, ap, arith, length, min, ℕ}
use Rattle.snmp_msg.specs.Variables.{variables_left, variables_of}
use Rattle.snmp_walk.proofs.counting.binding_count.Goals as goal

pub loop-binding-init : goal.loop-binding-init
loop-binding-init c =
    let all = ap (λ s. length (variables_left s)) c.into_iter-binding-iterator.ensures.into_iter_gives ∙ ap length c.variable_bindings-binding-items.ensures.first in
    record { ready = tt; ends = tt; done = 0; joined = omega (arith, all); counted = refl }

pub loop-binding-preserved : goal.loop-binding-preserved
loop-binding-preserved c =
    let inv = c.loop-binding.invariant in
    let step = ap length c.in-Some.ensures.steps in
    record {
      ready = tt;
      ends = tt;
      done = inv.done + 1;
      joined = omega (arith, step, inv.joined);
      counted = grind (arith, inv.counted, c.saturating_add-count.ensures);
    }

pub returns : goal.returns
returns c =
    let inv = c.loop-binding.invariant in
    let none = ap length c.in-None.ensures.steps.0 in
    let all : inv.done ≡ length (variables_of c.args.pdu.now.list.now) = omega (arith, none, inv.joined) in
    inv.counted ∙ ap (λ (n : ℕ). min n (2 ^ 64 - 1)) all
