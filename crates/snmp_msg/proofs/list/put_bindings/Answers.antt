use Rattle.std.proofs.Common.{◌++◌, ℕ, List, take, ap, sym, ◌∙◌, append_assoc, arith}
use Rattle.std.specs.Prelude.{map}
use Rattle.std.proofs.lemmas.List.{append-nil}
use Rattle.snmp_msg.specs.Variables.{variable_text, variables_text}
use Rattle.snmp_msg.proofs.Written.{no_text, text_more, value_short}
use Rattle.snmp_msg.proofs.list.put_bindings.Goals as goal

pub loop-binding-init : goal.loop-binding-init
loop-binding-init g c = sym (append-nil c.args.out.now.items) ∙ ap (λ (t : List ℕ). c.args.out.now.items ++ t) (sym no_text)

pub put_binding-requires-clause-short : goal.put_binding-requires-clause-short
put_binding-requires-clause-short g c = omega (arith, value_short g.B.Spelled.says c.args.bindings.now c.loop-binding.binding-index c.binding-item.result c.loop-binding-test.true c.binding-item.is, c.requires.short)

pub loop-binding-preserved : goal.loop-binding-preserved
loop-binding-preserved g c =
    let says = g.B.Spelled.says in
    let bs = c.args.bindings.now in
    let i = c.loop-binding.binding-index in
    c.in_ok-put_binding.ensures.ok ∙ ap (λ (t : List ℕ). t ++ variable_text (says c.binding-item.result)) c.loop-binding.invariant
    ∙ append_assoc c.args.out.now.items (variables_text (map says (take i bs))) (variable_text (says c.binding-item.result))
    ∙ ap (λ (t : List ℕ). c.args.out.now.items ++ t) (sym (text_more says bs i c.binding-item.result c.loop-binding-test.true c.binding-item.is))
