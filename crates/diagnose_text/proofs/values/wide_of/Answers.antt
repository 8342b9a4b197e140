use Rattle.std.proofs.Common.{arith}
use Rattle.diagnose_text.proofs.Wides.{too_large}
use Rattle.diagnose_text.proofs.values.wide_of.Goals as goal

pub returns-in_err-checked_mul : goal.returns-in_err-checked_mul
returns-in_err-checked_mul c =
    too_large c.from_residual.result c.args.content.now c.loop-octet.octet-index c.loop-octet.number c.from_residual.ensures c.loop-octet-test.true c.loop-octet.invariant
    (omega (arith, c.in_err-checked_mul.ensures))
