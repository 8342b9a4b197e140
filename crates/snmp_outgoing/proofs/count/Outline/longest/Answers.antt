use Rattle.std.proofs.Common.{◌≡◌, ◌+◌, ℕ, length, map, take, refl, ap, sym, subst, arith, rules}
use Rattle.snmp_msg.specs.Variables.{variables_text}
use Rattle.snmp_msg.proofs.Written.{no_text, text_more_length}
use Rattle.snmp_outgoing.specs.Outlines.{HasAtMost}
use Rattle.snmp_outgoing.proofs.Counting.{list_least}
use Rattle.snmp_outgoing.proofs.count.Outline.longest.Goals as goal

pub loop-binding-init : goal.loop-binding-init
loop-binding-init g c = record { count = search rules; size = sym (ap length no_text); short = omega arith; fits = c.requires.none }

pub returns-in_default-clause-longest : goal.returns-in_default-clause-longest
returns-in_default-clause-longest g c small most =
    let says = g.B.Spelled.says in
    let bs = c.args.bindings.now in
    let i = c.loop-binding.binding-index in
    let at = subst (λ (n : ℕ). HasAtMost c.args.self.now c.args.limit (map says (take (n + 1) bs))) c.loop-binding.invariant.count most in
    omega (arith, c.in_default.ensures.none, text_more_length says bs i c.binding-item.result c.loop-binding-test.true c.binding-item.is, list_least c.args.self.now (map says (take (i + 1) bs)), at.content)

pub returns-then-list_len-gt-LARGEST-clause-longest : goal.returns-then-list_len-gt-LARGEST-clause-longest
returns-then-list_len-gt-LARGEST-clause-longest g c small most =
    let says = g.B.Spelled.says in
    let bs = c.args.bindings.now in
    let i = c.loop-binding.binding-index in
    let at = subst (λ (n : ℕ). HasAtMost c.args.self.now c.args.limit (map says (take (n + 1) bs))) c.loop-binding.invariant.count most in
    omega (arith, c.in-Some.ensures.some, c.loop-binding.invariant.size, text_more_length says bs i c.binding-item.result c.loop-binding-test.true c.binding-item.is, list_least c.args.self.now (map says (take (i + 1) bs)), at.content)

pub returns-then-not-is_within-clause-longest : goal.returns-then-not-is_within-clause-longest
returns-then-not-is_within-clause-longest g c small most =
    let says = g.B.Spelled.says in
    let bs = c.args.bindings.now in
    let i = c.loop-binding.binding-index in
    let at = subst (λ (n : ℕ). HasAtMost c.args.self.now c.args.limit (map says (take (n + 1) bs))) c.loop-binding.invariant.count most in
    let size : length (variables_text (map says (take (i + 1) bs))) ≡ c.loop-binding.list_len + c.in-Some.size = omega (arith, c.in-Some.ensures.some, c.loop-binding.invariant.size, text_more_length says bs i c.binding-item.result c.loop-binding-test.true c.binding-item.is) in
    c.if-not-is_within.ensures.no refl (map says (take (i + 1) bs)) size at

pub loop-binding-preserved : goal.loop-binding-preserved
loop-binding-preserved g c =
    let says = g.B.Spelled.says in
    let bs = c.args.bindings.now in
    let i = c.loop-binding.binding-index in
    let more : c.loop-binding.list_len + c.in-Some.size ≡ length (variables_text (map says (take (i + 1) bs))) =
    omega (arith, c.in-Some.ensures.some, c.loop-binding.invariant.size, text_more_length says bs i c.binding-item.result c.loop-binding-test.true c.binding-item.is)
    in
    record {
      count = ap (λ (n : ℕ). n + 1) c.loop-binding.invariant.count;
      size = more;
      short = search rules;
      fits = c.if-not-is_within.ensures.yes refl (map says (take (i + 1) bs)) (sym more);
    }
