use Rattle.std.proofs.Common.{List, Result, inr, refl, ℕ}
use Rattle.snmp_incoming.specs.Answers.{given_of}
use Rattle.snmp_message.specs.declared.refusal.Refusal.{Refusal}
use Rattle.snmp_outgoing.specs.UpTo.{UpTo}
use Rattle.snmp_agent.specs.Responses.{responding}
use Rattle.snmp_agent.specs.Sent.{Sends}
use Rattle.snmp_gate.specs.Replies.{answering, too_big}
use Rattle.snmp_gate.proofs.Sending.{within, within_limit}
use Rattle.snmp_gate.proofs.Unsealed.{not_memory, refused_answer}
use Rattle.snmp_gate.proofs.reply.reply_without.Goals as goal

pub returns-in-Ok-clause-sent : goal.returns-in-Ok-clause-sent
returns-in-Ok-clause-sent c = ((λ contexts pdu front text. within _ _ _ (rw c.response_of.ensures at (c.in-Ok.ensures.answer contexts pdu front text))), refl)

pub returns-in-Ok-clause-short : goal.returns-in-Ok-clause-short
returns-in-Ok-clause-short c contexts pdu front text = within_limit _ _ _ (rw c.response_of.ensures at (c.in-Ok.ensures.answer contexts pdu front text))

pub returns-in-TooLarge-refusal-clause-left : goal.returns-in-TooLarge-refusal-clause-left
returns-in-TooLarge-refusal-clause-left c contexts pdu front text = rw (c.response_of.ensures, c.in-TooLarge-refusal.is) at (c.in-Err.ensures.answer contexts pdu front text)

pub returns-in_default-refusal-clause-left : goal.returns-in_default-refusal-clause-left
returns-in_default-refusal-clause-left c =
    let a = answering c.args.agent.now c.args.sealing.now in
    let given = given_of c.args.taken.now in
    let refusal = c.in-Err.refused.refusal in
    inr (
      c.in_default-refusal.not-TooLarge,
      (
        too_big,
        λ contexts pdu front text.
            let table : Result (List ℕ) Refusal → Type 0 = Sends a.agent a.now (λ own. responding a.agent.engine own given contexts pdu too_big.status too_big.index too_big.variables a.salt) in
            refused_answer c.args.sealing.now.limit table refusal c.in_default-refusal.not-TooLarge
            (not_memory (UpTo c.args.sealing.now.limit table) refusal c.if-is_memory-2.ensures (rw c.response_of.ensures at (c.in-Err.ensures.answer contexts pdu front text))),
      ),
    )
