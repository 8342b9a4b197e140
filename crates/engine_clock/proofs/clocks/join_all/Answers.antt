use Rattle.std.proofs.Common.{rules, ◌≡◌, List, [], ◌∷◌, ap, ◌∙◌, subst}
use Rattle.std.proofs.lemmas.Map.Iter.{rest_more, rest_all}
use Rattle.std.specs.Map.Iter.{deref_pair}
use Rattle.engine_clock.specs.Marks.{learned}
use Rattle.engine_clock.proofs.Absorbing.{after_all, turn, all_joined}
use Rattle.engine_clock.proofs.clocks.join_all.Goals as goal

pub loop-engine-preserved : goal.loop-engine-preserved
loop-engine-preserved c =
    let left : c.loop-engine.engine-iterator ≡ (c.in-Some.engine.now, c.in-Some.mark.now) ∷ c.next.new.self = rest_more deref_pair _ _ _ (c.in-Some.engine, c.in-Some.mark) c.in-Some.is c.next.ensures.steps in
    let same : c.in_ok-clone.field-0 ≡ c.in-Some.engine.now = search rules in
    turn (c.in-Some.engine.now, c.in-Some.mark.now) c.next.new.self c.loop-engine.engine-iterator c.args.marks.now.entries c.loop-engine.clocks c.join_in.new.self c.args.clocks.now
    left (c.in_ok-join_in.ensures.ok ∙ ap (λ e. learned e c.in-Some.mark.now c.loop-engine.clocks) same) c.loop-engine.invariant.sorted c.loop-engine.invariant.whole c.loop-engine.invariant.held

pub returns-clause-joined : goal.returns-clause-joined
returns-clause-joined c =
    let none : c.loop-engine.engine-iterator ≡ [] = rest_all deref_pair _ _ _ c.in-None.is c.next.ensures.steps in
    all_joined c.args.marks.now.entries c.args.clocks.now c.loop-engine.clocks
    (λ q. subst (λ (es : List _). after_all es c.loop-engine.clocks q ≡ after_all c.args.marks.now.entries c.args.clocks.now q) none (c.loop-engine.invariant.whole q))
