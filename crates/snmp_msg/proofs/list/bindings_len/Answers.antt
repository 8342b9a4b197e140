use Rattle.std.proofs.Common.{◌+◌, ◌<◌, length, ap, sym, arith, rules}
use Rattle.std.specs.Prelude.{map}
use Rattle.snmp_msg.specs.Variables.{variables_text}
use Rattle.snmp_msg.proofs.Written.{no_text, text_more_length, text_prefix, fit_more}
use Rattle.snmp_msg.proofs.list.bindings_len.Goals as goal

pub loop-binding-init : goal.loop-binding-init
loop-binding-init g c = record { size = sym (ap length no_text); most = omega arith; fit = tt }

pub returns-in_err-size-clause-none : goal.returns-in_err-size-clause-none
returns-in_err-size-clause-none g c =
    let says = g.B.Spelled.says in
    let bs = c.args.bindings.now in
    let i = c.loop-binding.binding-index in
    let large : 65507 < length (variables_text (map says bs)) = omega (arith, c.in_err-size.ensures.none, text_more_length says bs i c.binding-item.result c.loop-binding-test.true c.binding-item.is, text_prefix says (i + 1) bs) in
    search rules

pub returns-then-size-gt-LARGEST-clause-none : goal.returns-then-size-gt-LARGEST-clause-none
returns-then-size-gt-LARGEST-clause-none g c =
    let says = g.B.Spelled.says in
    let bs = c.args.bindings.now in
    let i = c.loop-binding.binding-index in
    omega (arith, c.in_ok-size.ensures.some, c.loop-binding.invariant.size, text_more_length says bs i c.binding-item.result c.loop-binding-test.true c.binding-item.is, text_prefix says (i + 1) bs)

pub loop-binding-preserved : goal.loop-binding-preserved
loop-binding-preserved g c =
    let says = g.B.Spelled.says in
    let bs = c.args.bindings.now in
    let i = c.loop-binding.binding-index in
    record {
      size = omega (arith, c.in_ok-size.ensures.some, c.loop-binding.invariant.size, text_more_length says bs i c.binding-item.result c.loop-binding-test.true c.binding-item.is);
      most = omega arith;
      fit = fit_more says bs i c.binding-item.result c.loop-binding-test.true c.binding-item.is c.loop-binding.invariant.fit c.in_ok-size.ensures.fit;
    }
