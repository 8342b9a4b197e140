use Rattle.std.proofs.Common.{◌≡◌, None, sym, ap, ◌∙◌, length, rules}
use Rattle.snmp_msg.specs.Variables.{binding_in, bound_variable}
use Rattle.snmp_message.proofs.Cuts.{whole_slice}
use Rattle.snmp_msg.proofs.Variables.{no_variable, left_after}
use Rattle.snmp_msg.proofs.variable.VariableBindingsIterator.next.Goals as goal

pub returns-in_default-clause-steps : goal.returns-in_default-clause-steps
returns-in_default-clause-steps c =
    let rest = c.args.self.now.rest.now in
    let none : binding_in rest ≡ None = ap binding_in (sym (whole_slice rest)) ∙ sym c.in_default.ensures.value in
    let left = (no_variable rest none).0 in
    (left, left)

pub returns-clause-steps : goal.returns-clause-steps
returns-clause-steps c = left_after c.args.self.now.rest.now (bound_variable c.in-Ok.binding) c.in-Ok.after c.in-Ok.ensures.value

pub returns-clause-goes : goal.returns-clause-goes
returns-clause-goes c =
    let fewer = ap length (left_after c.args.self.now.rest.now (bound_variable c.in-Ok.binding) c.in-Ok.after c.in-Ok.ensures.value) in
    search rules
