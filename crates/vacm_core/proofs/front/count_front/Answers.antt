use Rattle.std.proofs.Common.{ℕ, ◌<◌, arith, ap, sym, ◌∙◌, ◌≡◌, Bool, false, length, get_or, [], ◌∷◌, Bor}
use Rattle.std.specs.Fn.{ComputesKey}
use denote.Param.Members.{Mut, MutLaws}
use Rattle.std.proofs.lemmas.List.{get_or_default}
use Rattle.vacm_core.proofs.Runs.{parted_front, front_point}
use Rattle.vacm_core.proofs.front.count_front.Goals as goal
use Rattle.vacm_core.proofs.front.count_front.Goals.{then-loop-near-test+else-passes, else-loop-near-test}

-- a call that was made gave what each call gives
gave : {F X : Type 0} (g : Mut F (Bor X × Unit {0}) Bool) (p : X → Bool) (f : F) → MutLaws g → ComputesKey g p f → {a : Bor X × Unit {0}} {r : Bool} → g.post f a r → r ≡ p a.0.now
gave g p f laws by {a} {r} post = let call = (laws.post_iff f a r).0 post in (by.at (a ∷ []) r call.0 call.1).0

pub returns-clause-parted : goal.returns-clause-parted
returns-clause-parted g c p by parted =
    let items = c.args.items.now in
    let near = c.min-near.ensures in
    let next : (d : g.row.T.Denot) → c.loop-near.near < length items → p (get_or items c.loop-near.near d) ≡ false =
    λ d within. elim c.loop-near-test.branch [
      | then-loop-near-test+else-passes w ↦
          let is : w.passes.result ≡ p w.index-items-near.result = gave g.P.Fn p c.args.passes g.met.P.FnMut.1 by w.passes.ensures in
          ap p (get_or_default items c.loop-near.near d w.index-items-near.result within ∙ sym w.index-items-near.is) ∙ sym is ∙ w.if-passes.false
      | else-loop-near-test w ↦ let past = w.loop-near-test in absurd (omega arith)
    ] in
    front_point p items c.min-near.result (omega arith) parted
    (λ d within. let e : c.min-near.result ≡ c.loop-near.near = omega (arith, within) in ap (λ (n : ℕ). p (get_or items n d)) e ∙ next d (omega (arith, within)))
    c.partition_point.result c.partition_point.ensures.bound
    (c.partition_point.ensures.partitioned p by (parted_front p items c.min-near.result (omega arith) parted))
