use Rattle.std.proofs.Common.{arith, sym, ◌≡◌, ◌∙◌, ap, ℕ}
use Rattle.std.proofs.lemmas.Nat.Bits.{shr_and_one}
use Rattle.usm_aes.specs.Field.{product as product_of}
use Rattle.usm_aes.proofs.Octets.{partial, times, partial_whole, partial_zero, times_zero, partial_one_more, partial_none_more, times_more}
use Rattle.usm_aes.proofs.field.product.Goals as goal
use Rattle.usm_aes.proofs.field.product.Goals.{then-b-i-eq1, else-b-i-eq1}

pub loop-i-init : goal.loop-i-init
loop-i-init c = (sym (partial_zero c.args.a c.args.b), sym (times_zero c.args.a))

pub loop-i-preserved : goal.loop-i-preserved
loop-i-preserved c =
    let a : ℕ = c.args.a in
    let b : ℕ = c.args.b in
    let i : ℕ = c.loop-i.i in
    let sum : c.loop-i.sum ≡ partial a b i = c.loop-i.invariant.0 in
    let term : c.loop-i.term ≡ times a i = c.loop-i.invariant.1 in
    let bit = shr_and_one b i in (
      elim c.if-b-i-eq1.branch [
        | then-b-i-eq1 w ↦ w.sum-is ∙ rw (sum, term) (sym (partial_one_more a b i (sym bit ∙ w.if-b-i-eq1.true)))
        | else-b-i-eq1 w ↦ w.sum-is ∙ sum ∙ sym (partial_none_more a b i (λ e. w.if-b-i-eq1.false (bit ∙ e)))
      ],
      c.double-term.ensures ∙ ap (product_of 2) term ∙ sym (times_more a i),
    )

pub returns : goal.returns
returns c =
    let e : c.loop-i.i ≡ 8 = omega arith in
    c.loop-i.invariant.0 ∙ ap (partial c.args.a c.args.b) e ∙ partial_whole c.args.a c.args.b c.ranges.a.fits
