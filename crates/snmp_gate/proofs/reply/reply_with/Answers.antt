use Rattle.std.proofs.Common.{IfOk, List, Result, inl, map, refl, subst, ℕ}
use Rattle.snmp_incoming.specs.Answers.{given_of}
use Rattle.snmp_message.specs.declared.refusal.Refusal.{Refusal}
use Rattle.snmp_outgoing.specs.UpTo.{UpTo}
use Rattle.snmp_agent.specs.Agent.{AgentState}
use Rattle.snmp_agent.specs.Responses.{responding}
use Rattle.snmp_agent.specs.Sent.{Sends}
use Rattle.snmp_gate.specs.Replies.{Told, answering, told_with}
use Rattle.snmp_gate.specs.Unanswered.{IsLeftWithout}
use Rattle.snmp_gate.proofs.Sending.{on_ok, within, within_limit}
use Rattle.snmp_gate.proofs.Unsealed.{not_memory, refused_answer, without_left}
use Rattle.snmp_gate.proofs.reply.reply_with.Goals as goal

pub returns-in-Ok-clause-sent : goal.returns-in-Ok-clause-sent
returns-in-Ok-clause-sent g c = inl ((λ contexts pdu front text. within _ _ _ (rw c.response_of.ensures at (c.in-Ok.ensures.answer contexts pdu front text))), refl)

pub returns-in-Ok-clause-short : goal.returns-in-Ok-clause-short
returns-in-Ok-clause-short g c contexts pdu front text = within_limit _ _ _ (rw c.response_of.ensures at (c.in-Ok.ensures.answer contexts pdu front text))

pub returns-in-Err-clause-left : goal.returns-in-Err-clause-left
returns-in-Err-clause-left g c =
    let a = answering c.args.agent.now c.args.sealing.now in
    let given = given_of c.args.taken.now in
    let refusal = c.in-Err.refused.refusal in
    let told : Told = told_with c.args.says (map g.B.Spelled.says c.args.bindings.now) in
    on_ok c.reply_without.result _ _
    (without_left a c.args.sealing.now.limit given refusal
    (λ other memory. (
      other,
      (
        told,
        λ contexts pdu front text.
            let table : Result (List ℕ) Refusal → Type 0 = Sends a.agent a.now (λ own. responding a.agent.engine own given contexts pdu told.status told.index told.variables a.salt) in
            refused_answer c.args.sealing.now.limit table refusal other (not_memory (UpTo c.args.sealing.now.limit table) refusal memory (rw c.response_of.ensures at (c.in-Err.ensures.answer contexts pdu front text))),
      ),
    )))
    (subst (λ (x : AgentState). IfOk c.reply_without.result (IsLeftWithout (answering x c.args.sealing.now) c.args.sealing.now.limit given refusal)) c.in-Err.ensures.same c.reply_without.ensures.left)
