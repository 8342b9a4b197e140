use Rattle.std.proofs.Common.{IfOk, [], inl, map, pos, refl, subst, List}
use Rattle.engine_clock.specs.Pairs.{BootsAndTime}
use Rattle.snmp_msg.specs.Variables.{Variable, variable_of}
use Rattle.snmp_incoming.specs.Answers.{given_of}
use Rattle.snmp_agent.specs.Agent.{AgentState}
use Rattle.snmp_agent.specs.Responses.{responding}
use Rattle.snmp_agent.specs.Sent.{SendsFront}
use Rattle.snmp_gate.specs.Replies.{answering, without_error}
use Rattle.snmp_gate.specs.Unanswered.{IsLeftWithout}
use Rattle.snmp_gate.proofs.Sending.{front_sent, front_within, on_ok}
use Rattle.snmp_gate.proofs.Unsealed.{not_memory, refused_front, without_left}
use Rattle.snmp_gate.proofs.reply.reply_front.Goals as goal

pub returns-in-Ok-clause-sent : goal.returns-in-Ok-clause-sent
returns-in-Ok-clause-sent c = inl (
  c.in-Ok.fronted.count,
  (
    (λ contexts pdu front text.
        front_sent c.args.agent.now c.args.sealing.now.seconds c.args.sealing.now.limit
        (λ (own : BootsAndTime) (vs : List Variable). responding c.args.agent.now.engine own (given_of c.args.taken.now) contexts pdu (pos 0) (pos 0) vs c.args.sealing.now.salt)
        (map variable_of c.args.bindings.now) (record { text = c.in-Ok.fronted.text.items; count = c.in-Ok.fronted.count })
        (rw c.response_of-response.ensures at (c.in-Ok.ensures.answer contexts pdu front text))),
    refl,
  ),
)

pub returns-in-Ok-clause-short : goal.returns-in-Ok-clause-short
returns-in-Ok-clause-short c contexts pdu front text =
    front_within c.args.agent.now c.args.sealing.now.seconds c.args.sealing.now.limit
    (λ (own : BootsAndTime) (vs : List Variable). responding c.args.agent.now.engine own (given_of c.args.taken.now) contexts pdu (pos 0) (pos 0) vs c.args.sealing.now.salt)
    (map variable_of c.args.bindings.now) (record { text = c.in-Ok.fronted.text.items; count = c.in-Ok.fronted.count })
    (rw c.response_of-response.ensures at (c.in-Ok.ensures.answer contexts pdu front text))

pub returns-in-Err-clause-left : goal.returns-in-Err-clause-left
returns-in-Err-clause-left c =
    let a = answering c.args.agent.now c.args.sealing.now in
    let given = given_of c.args.taken.now in
    let refusal = c.in-Err.refused.refusal in
    let vs = map variable_of c.args.bindings.now in
    on_ok c.reply_without.result _ _
    (without_left a c.args.sealing.now.limit given refusal
    (λ other memory. (
      other,
      (
        without_error [],
        λ contexts pdu front text.
            let message = λ (own : BootsAndTime) (ws : List Variable). responding a.agent.engine own given contexts pdu (pos 0) (pos 0) ws a.salt in
            refused_front a.agent a.now c.args.sealing.now.limit message vs refusal other
            (not_memory (SendsFront a.agent a.now c.args.sealing.now.limit message vs) refusal memory (rw c.response_of-response.ensures at (c.in-Err.ensures.answer contexts pdu front text))),
      ),
    )))
    (subst (λ (x : AgentState). IfOk c.reply_without.result (IsLeftWithout (answering x c.args.sealing.now) c.args.sealing.now.limit given refusal)) c.in-Err.ensures.same c.reply_without.ensures.left)
