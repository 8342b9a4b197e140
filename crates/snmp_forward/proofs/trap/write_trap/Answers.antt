use Rattle.std.proofs.Common.{List, Ok, ap, map, pos, sym, ◌∙◌}
use Rattle.snmp_msg.proofs.Variables.{variables_of-again}
use Rattle.snmp_msg.specs.Pdu.{pdu_of, pdu_with}
use Rattle.snmp_msg.specs.PduTypes.{pdu_tag}
use Rattle.snmp_msg.specs.Variables.{Variable, bound_variable}
use Rattle.snmp_msg.specs.declared.pdu_type.PduType.TheVariants.{SNMPv2Trap}
use Rattle.snmp_msg.specs.declared.variable.VariableBinding.{VariableBinding}
use Rattle.snmp_outgoing.specs.Bodies.{pdu_after}
use Rattle.snmp_forward.proofs.Written.{as_refused, as_trap}
use Rattle.snmp_forward.proofs.trap.write_trap.Goals as goal

pub returns-in-Ok-clause-written : goal.returns-in-Ok-clause-written
returns-in-Ok-clause-written c = λ engine.
    let f = c.front_of-front in
    let says = variables_of-again (map bound_variable c.in_ok-bindings.bindings.items) c.args.pdu.now.list.now c.in_ok-bindings.ensures.says in
    let v = ap (λ (bs : List VariableBinding). map bound_variable bs) c.deref-2.ensures.value ∙ sym says.0 in
    let q = f.ensures.pdu (map bound_variable c.deref-2.result.now) ∙ ap (λ (vs : List Variable). pdu_with (pdu_tag SNMPv2Trap) c.args.pdu.now.id (pos 0) (pos 0) vs) v in
    as_trap c.args.agent.now c.args.by.now c.args.to.now c.args.context.now (pdu_of c.args.pdu.now) (Ok c.in-Ok.datagram.items) c.deref.result.now f.result.context_engine.now f.result.context_name.now (pdu_after f.result (map bound_variable c.deref-2.result.now))
    c.deref.ensures.value (f.ensures.engine ∙ engine) f.ensures.context q c.in-Ok.ensures.answer

pub returns-clause-written : goal.returns-clause-written
returns-clause-written c = λ engine.
    let f = c.front_of-front in
    let says = variables_of-again (map bound_variable c.in_ok-bindings.bindings.items) c.args.pdu.now.list.now c.in_ok-bindings.ensures.says in
    let v = ap (λ (bs : List VariableBinding). map bound_variable bs) c.deref-2.ensures.value ∙ sym says.0 in
    let q = f.ensures.pdu (map bound_variable c.deref-2.result.now) ∙ ap (λ (vs : List Variable). pdu_with (pdu_tag SNMPv2Trap) c.args.pdu.now.id (pos 0) (pos 0) vs) v in
    as_refused c.args.agent.now c.args.by.now c.args.to.now c.args.context.now (pdu_of c.args.pdu.now) c.in-Err.refused.refusal c.deref.result.now f.result.context_engine.now f.result.context_name.now (pdu_after f.result (map bound_variable c.deref-2.result.now))
    c.deref.ensures.value (f.ensures.engine ∙ engine) f.ensures.context q c.if-is_memory.ensures c.in-Err.ensures.answer
