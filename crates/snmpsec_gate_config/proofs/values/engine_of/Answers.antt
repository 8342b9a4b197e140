use Rattle.std.proofs.Common.{arith}
use Rattle.hex.proofs.HexLemmas.{decode_of-ok}
use Rattle.snmpsec_gate_config.proofs.values.engine_of.Goals as goal

pub returns-then-count-gt-ENGINE_MAX : goal.returns-then-count-gt-ENGINE_MAX
returns-then-count-gt-ENGINE_MAX c = λ engine read is.
    let long = (decode_of-ok c.args.digits.now engine read).2 in
    let most = is.at_most in
    omega (arith, long, most, c.if-count-gt-ENGINE_MAX.true)
