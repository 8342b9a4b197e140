use Rattle.std.proofs.Common.{[]}
use Rattle.std.specs.Prelude.{◌∷◌, List, ℕ}
use Rattle.tests_callers.proofs.Told.{swapped}
use Rattle.tests_callers.proofs.managers.take_all_the_same.Goals as goal

pub returns : goal.returns
returns c = λ yes.
    let join = c.takes_are_joined.ensures.joined in
    let x : ℕ × List ℕ = (c.args.now, c.args.first.now) in
    let y : ℕ × List ℕ = (c.args.later, c.args.second.now) in
    let z : ℕ × List ℕ = (c.args.now, c.args.second.now) in
    c.same_authentic_same_pairs.ensures c.args.one.now c.args.other.now c.take_one-2.new.manager c.take_one-5.new.manager (x ∷ y ∷ []) (y ∷ x ∷ z ∷ []) c.requires.alike
    (λ w engine pair auth. swapped c.args.first.now c.args.second.now w)
    (join c.args.one.now c.take_one.new.manager c.take_one-2.new.manager (x ∷ []) (y ∷ []) (c.take_one.ensures c.if-not-take_one.false) (c.take_one-2.ensures c.if-not-take_one-2.false))
    (join c.args.other.now c.take_one-3.new.manager c.take_one-5.new.manager (y ∷ []) (x ∷ z ∷ []) (c.take_one-3.ensures c.if-not-take_one-3.false)
    (join c.take_one-3.new.manager c.take_one-4.new.manager c.take_one-5.new.manager (x ∷ []) (z ∷ []) (c.take_one-4.ensures c.if-not-take_one-4.false) (c.take_one-5.ensures c.if-not-take_one-5.false)))
