use Rattle.std.proofs.Common.{List, ℕ, map, subst, ap, ◌∙◌}
use Rattle.std.specs.Prelude.{Result}
use Rattle.snmp_message.specs.Scoped.{contexts_of}
use Rattle.snmp_message.specs.declared.refusal.Refusal.{Refusal}
use Rattle.snmp_msg.specs.Pdu.{pdu_of}
use Rattle.snmp_msg.specs.Variables.{Variable, bound_variable, variables_of}
use Rattle.snmp_incoming.specs.Answers.{given_of}
use Rattle.usm_core.specs.Answers.{seal_answer}
use Rattle.snmp_agent.specs.declared.response.Response.{Response}
use Rattle.snmp_listener.specs.Acknowledging.{Acknowledges, Responds}
use Rattle.snmp_listener.proofs.Somes.{if_some}
use Rattle.snmp_listener.proofs.acknowledgement.acknowledgement.Goals as goal

pub bindings_in-requires : goal.bindings_in-requires
bindings_in-requires c =
    let contexts = contexts_of c.scoped-scoped.result in
    let says = (c.pdu-pdu.ensures.is_pdu contexts c.scoped-scoped.ensures).says in
    (says.variables, says.are_bindings)

pub returns-clause-answer : goal.returns-clause-answer
returns-clause-answer c =
    let agent = c.args.agent.now in
    let now = c.args.now in
    let g = given_of c.args.taken.now in
    let salt = c.args.salt in
    let contexts = contexts_of c.scoped-scoped.result in
    let pdu = pdu_of c.pdu-pdu.result in
    let is_pdu = c.pdu-pdu.ensures.is_pdu contexts c.scoped-scoped.ensures in
    let bindings = ap (λ (bs : List _). map bound_variable bs) c.deref.ensures.value ∙ c.in_ok-bindings.ensures.says in
    if_some (Responds agent now g contexts pdu (map bound_variable c.deref.result.now) c.response_to.result) (Acknowledges agent now g salt)
    (λ (answer : Result (List ℕ) Refusal) responds. record {
      contexts = contexts;
      scoped = c.scoped-scoped.ensures;
      pdu = pdu;
      is_pdu = is_pdu;
      responds = subst (λ (r : Response). Responds agent now g contexts pdu (variables_of pdu.list) r answer) c.response_to.ensures
          (subst (λ (vs : List Variable). Responds agent now g contexts pdu vs c.response_to.result answer) bindings responds);
    })
    (seal_answer c.write_response.result) (c.write_response.ensures.answer contexts pdu c.scoped-scoped.ensures is_pdu)
