use Rattle.std.proofs.Common.{◌≡◌, true, false, refl, [], ap, sym, ◌∙◌, subst, is_some}
use Rattle.std.proofs.lemmas.Map.Iter.{rest_more, rest_all}
use Rattle.std.specs.Map.Iter.{deref_pair}
use Rattle.engine_clock.proofs.Absorbing.{AllHeld, HoldsAll-entries, first_held}
use Rattle.engine_clock.proofs.clocks.holds_all.Goals as goal

pub returns-then-is_none : goal.returns-then-is_none
returns-then-is_none c =
    let left = rest_more deref_pair _ _ _ (c.in-Some.engine, c.in-Some.field-0-1) c.in-Some.is c.next.ensures.steps in
    let marks = c.args.marks.now.entries in (
      λ wrong. cc wrong,
      λ every.
          let held = c.loop-engine.invariant.1 ((HoldsAll-entries c.args.clocks.now marks).1 every) in
          let first = first_held (c.in-Some.engine.now, c.in-Some.field-0-1.now) _ _ c.args.clocks.now left held in
          let wrong : false ≡ true = sym c.if-is_none.ensures ∙ ap is_some c.mark.ensures ∙ first in
          cc wrong,
    )

pub returns : goal.returns
returns c =
    let marks = c.args.marks.now.entries in
    let none : c.loop-engine.engine-iterator ≡ [] = rest_all deref_pair _ _ _ c.in-None.is c.next.ensures.steps in
    (λ _. (HoldsAll-entries c.args.clocks.now marks).0 (c.loop-engine.invariant.0 (subst (AllHeld c.args.clocks.now) (sym none) tt)), λ _. refl)
