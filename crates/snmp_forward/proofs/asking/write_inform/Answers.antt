use Rattle.std.proofs.Common.{List, ℕ, ap, map, pos, inr, refl, subst, sym, ◌∙◌}
use Rattle.std.proofs.lemmas.Result.{IfOk-weaker}
use Rattle.snmp_msg.proofs.Variables.{variables_of-again}
use Rattle.snmp_msg.specs.Pdu.{pdu_of, pdu_with}
use Rattle.snmp_msg.specs.PduTypes.{pdu_tag}
use Rattle.snmp_msg.specs.Variables.{Variable, bound_variable}
use Rattle.snmp_msg.specs.declared.pdu_type.PduType.TheVariants.{InformRequest}
use Rattle.snmp_msg.specs.declared.variable.VariableBinding.{VariableBinding}
use Rattle.snmp_outgoing.specs.Bodies.{pdu_after}
use Rattle.snmp_forward.specs.Notifications.{IsNoNotification, IsNotification}
use Rattle.snmp_forward.proofs.SentInforms.{inform_asked}
use Rattle.snmp_forward.proofs.asking.write_inform.Goals as goal

pub returns-in-Err-clause-written : goal.returns-in-Err-clause-written
returns-in-Err-clause-written c = inr (record {
  cause = c.in-Err.field-0;
  none = subst (λ (w : List ℕ). IsNoNotification w c.in-Err.field-0) c.deref.ensures.value c.in-Err.ensures;
  why_is = refl;
})

pub returns-clause-written : goal.returns-clause-written
returns-clause-written c = IfOk-weaker c.asked_with.result _ _ (λ asked is.
    let n = c.in-Ok.notification in
    let f = c.front_of-front in
    let says = variables_of-again (map bound_variable c.in_ok-bindings.bindings.items) n.pdu.list.now c.in_ok-bindings.ensures.says in
    let v = ap (λ (bs : List VariableBinding). map bound_variable bs) c.deref-4.ensures.value ∙ sym says.0 in
    let q = f.ensures.pdu (map bound_variable c.deref-4.result.now) ∙ ap (λ (vs : List Variable). pdu_with (pdu_tag InformRequest) n.pdu.id (pos 0) (pos 0) vs) v in
    let read = subst (λ (w : List ℕ). IsNotification w n.community.now (pdu_of n.pdu) n.trap_oid) c.deref.ensures.value c.in-Ok.ensures in
    inform_asked c.args.manager.now c.args.own.now c.args.engine.now c.args.inform.now c.args.by.now (pdu_of n.pdu) n.community.now n.trap_oid c.request_of.result asked
    f.result.tag c.deref-3.result.now f.result.context_engine.now f.result.context_name.now (pdu_after f.result (map bound_variable c.deref-4.result.now)) f.result.id
    read f.ensures.tag c.deref-3.ensures.value f.ensures.engine (f.ensures.context ∙ c.deref-2.ensures.value) q f.ensures.id c.request_of.ensures.text c.request_of.ensures.pending is) c.asked_with.ensures
