use Rattle.std.proofs.Common.{ap, subst, sym, ◌∙◌, ◌++◌, append-nil, List, map}
use Rattle.snmp_msg.specs.Variables.{AreBindings, Variable, bound_variable}
use Rattle.snmp_listener.proofs.Tags.{tags_of}
use Rattle.snmp_listener.proofs.acknowledgement.bindings_in.Goals as goal

pub returns-clause-tags : goal.returns-clause-tags
returns-clause-tags c =
    let said = map bound_variable c.loop-binding.bindings.items in
    let all = c.variable_bindings-binding-items.ensures.all c.requires.0 c.requires.1 in
    let done = sym (append-nil said) ∙ ap (λ (vs : List Variable). said ++ vs) (sym c.in-None.ensures.steps.0) ∙ c.loop-binding.invariant.joined ∙ sym c.variable_bindings-binding-items.ensures.first ∙ all in
    tags_of c.loop-binding.bindings.items c.args.pdu.now.list.now (subst (λ (vs : List Variable). AreBindings vs c.args.pdu.now.list.now) (sym done) c.requires.1)
