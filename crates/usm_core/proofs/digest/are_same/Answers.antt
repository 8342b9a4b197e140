use Rattle.std.proofs.Common.{◌≡◌, sym, length, arith}
use Rattle.std.proofs.lemmas.Bool.{eqb-true, eq-eqb}
use Rattle.usm_core.proofs.Same.{more_same, still_none, all_same}
use Rattle.usm_core.proofs.digest.are_same.Goals as goal

pub loop-k-preserved : goal.loop-k-preserved
loop-k-preserved c = (
  λ e. more_same c.args.a.now c.args.b.now c.loop-k.k c.loop-k.difference c.loop-k.invariant.0 e,
  λ e. still_none c.args.a.now c.args.b.now c.loop-k.k c.loop-k.difference e (c.loop-k.invariant.1 e),
)

pub returns : goal.returns
returns c =
    let sizes : length c.args.a.now ≡ length c.args.b.now = omega arith in
    let done : c.loop-k.k ≡ length c.args.a.now = omega arith in (
      λ right. all_same c.args.a.now c.args.b.now sizes (rw (sym done) (c.loop-k.invariant.0 (eqb-true c.loop-k.difference 0 right))),
      λ same. eq-eqb c.loop-k.difference 0 (c.loop-k.invariant.1 same),
    )
