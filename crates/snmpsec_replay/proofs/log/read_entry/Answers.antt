use Rattle.std.proofs.Common.{arith, ◌∙◌, sym, subst}
use Rattle.snmpsec_replay.specs.Log.{ArePairs}
use Rattle.snmpsec_replay.proofs.Texts.{says_none, line_parts}
use Rattle.snmpsec_replay.proofs.log.read_entry.Goals as goal

pub returns-in_default : goal.returns-in_default
returns-in_default c = says_none c.args.line.now c.in_default.ensures.none

pub returns-in_default-read_decimal : goal.returns-in_default-read_decimal
returns-in_default-read_decimal c = λ e l.
    let p = line_parts _ _ _ e c.in-Some.ensures.found l in
    let found = c.read_decimal.ensures.all e.moment (omega (arith, l.moment), p.0) in
    let wrong = sym c.in_default-read_decimal.is ∙ found in
    cc wrong

pub returns-in-None : goal.returns-in-None
returns-in-None c = λ e l.
    let p = line_parts _ _ _ e c.in-Some.ensures.found l in
    let none = rw c.in-None.is at c.in_ok-datagram.ensures in
    none e.datagram (subst (λ t. ArePairs t e.datagram) (sym p.1) l.pairs) l.some
