use Rattle.std.proofs.Common.{◌≡◌, subst}
use Rattle.std.specs.Prelude.{IfSome}
use Rattle.snmp_msg.specs.Pdu.{PduParts, pdu_of}
use Rattle.snmp_incoming.specs.Answers.{given_of}
use Rattle.snmp_message.specs.declared.refusal.Refusal.TheVariants.{OutOfMemory}
use Rattle.snmp_agent.specs.Dispatch.{Refuses, RefusalCanBeSent, refusing_answer}
use Rattle.snmp_message.specs.Refusals.{IsRefused}
use Rattle.snmp_agent.proofs.agent.Agent.refuse.Goals as goal

pub returns-clause-answer : goal.returns-clause-answer
returns-clause-answer c s p front is_pdu =
    let same_pdu : pdu_of c.pdu-pdu.result ≡ p = c.one_pdu.ensures.pdu s.pdu (pdu_of c.pdu-pdu.result) p (c.pdu-pdu.ensures.is_pdu s front) is_pdu in
    subst (λ (y : PduParts). IfSome (refusing_answer c.refuse_pdu.result) (λ answer. Refuses c.args.self.now c.args.now (given_of c.args.taken.now) y c.args.why c.args.salt answer c.refuse_pdu.new.self)) same_pdu c.refuse_pdu.ensures.answer

pub returns-clause-memory : goal.returns-clause-memory
returns-clause-memory c s p front is_pdu =
    let same_pdu : pdu_of c.pdu-pdu.result ≡ p = c.one_pdu.ensures.pdu s.pdu (pdu_of c.pdu-pdu.result) p (c.pdu-pdu.ensures.is_pdu s front) is_pdu in
    subst (λ (y : PduParts). IsRefused c.refuse_pdu.result OutOfMemory → RefusalCanBeSent c.args.self.now c.args.now (given_of c.args.taken.now) y c.args.why c.args.salt) same_pdu c.refuse_pdu.ensures.memory
