use Rattle.std.proofs.Common.{Bool, None, inl, inr, refl, subst, sym, ◌≢◌}
use Rattle.snmp_message.specs.Scoped.{contexts_of}
use Rattle.snmp_incoming.specs.Answers.{given_of}
use Rattle.snmp_msg.specs.Pdu.{pdu_of}
use Rattle.snmp_gate.specs.Replies.{IsReportedOr, answering}
use Rattle.snmp_gate.specs.declared.reply.Reply.{Reply}
use Rattle.snmp_message.specs.Numbers.{MemoryIs, in_table}
use Rattle.snmp_gate.specs.Counting.{CountsReply}
use Rattle.snmp_gate.specs.Unanswered.{IsLeftReport}
use Rattle.snmp_gate.proofs.Sending.{refused_counts, refused_same}
use Rattle.snmp_gate.proofs.Unsealed.{not_memory}
use Rattle.snmp_gate.proofs.report.reply_unhandled.Goals as goal

pub returns-in-Ok-Some-clause-sent : goal.returns-in-Ok-Some-clause-sent
returns-in-Ok-Some-clause-sent c =
    let a = answering c.args.agent.now c.args.sealing.now in
    let Is : Reply → Type 0 = IsReportedOr a (given_of c.args.taken.now) c.args.why in
    elim c.report_within.ensures.is [
      | inl none ↦ subst Is (sym none.0) tt
      | inr is ↦ subst Is (sym is) ((λ contexts pdu front text. (c.refuse.new.self, rw c.in-Ok-Some.field-0-is at (c.in-Ok-Some.ensures.answer contexts pdu front text))), refl)
    ]

pub returns-in-Ok-Some-clause-same : goal.returns-in-Ok-Some-clause-same
returns-in-Ok-Some-clause-same c =
    let contexts = contexts_of c.scoped-scoped.result in
    refused_same _ _ _ (given_of c.args.taken.now) _ _ _ _ (c.in-Ok-Some.ensures.answer contexts (pdu_of c.pdu-pdu.result) c.scoped-scoped.ensures (c.pdu-pdu.ensures.is_pdu contexts c.scoped-scoped.ensures))

pub returns-in-Ok-None-clause-same : goal.returns-in-Ok-None-clause-same
returns-in-Ok-None-clause-same c =
    let contexts = contexts_of c.scoped-scoped.result in
    refused_same _ _ _ (given_of c.args.taken.now) _ _ _ _ (c.in-Ok-None.ensures.answer contexts (pdu_of c.pdu-pdu.result) c.scoped-scoped.ensures (c.pdu-pdu.ensures.is_pdu contexts c.scoped-scoped.ensures))

pub returns-in-Ok-Some-clause-counted : goal.returns-in-Ok-Some-clause-counted
returns-in-Ok-Some-clause-counted c =
    let contexts = contexts_of c.scoped-scoped.result in
    let counts = refused_counts _ _ _ (given_of c.args.taken.now) _ _ _ _ (c.in-Ok-Some.ensures.answer contexts (pdu_of c.pdu-pdu.result) c.scoped-scoped.ensures (c.pdu-pdu.ensures.is_pdu contexts c.scoped-scoped.ensures)) in
    let Counts : Reply → Type 0 = CountsReply c.args.agent.now c.refuse.new.self in
    elim c.report_within.ensures.is [ inl none ↦ subst Counts (sym none.0) (inr counts) | inr is ↦ subst Counts (sym is) counts ]

pub returns-in-Ok-None-clause-counted : goal.returns-in-Ok-None-clause-counted
returns-in-Ok-None-clause-counted c =
    let contexts = contexts_of c.scoped-scoped.result in
    inr (refused_counts _ _ _ (given_of c.args.taken.now) _ _ _ _ (c.in-Ok-None.ensures.answer contexts (pdu_of c.pdu-pdu.result) c.scoped-scoped.ensures (c.pdu-pdu.ensures.is_pdu contexts c.scoped-scoped.ensures)))

pub returns-in-Ok-Some-clause-left : goal.returns-in-Ok-Some-clause-left
returns-in-Ok-Some-clause-left c =
    let a = answering c.args.agent.now c.args.sealing.now in
    let Is : Reply → Type 0 = IsLeftReport a c.args.sealing.now.limit (given_of c.args.taken.now) c.args.why in
    elim c.report_within.ensures.is [
      | inl long ↦ subst Is (sym long.0) (inr (c.in-Ok-Some.report.items, (λ contexts pdu front text. (c.refuse.new.self, rw c.in-Ok-Some.field-0-is at (c.in-Ok-Some.ensures.answer contexts pdu front text))), long.1))
      | inr is ↦ subst Is (sym is) tt
    ]

pub returns-in-Ok-None-clause-left : goal.returns-in-Ok-None-clause-left
returns-in-Ok-None-clause-left c = inl (λ contexts pdu front text. (c.refuse.new.self, rw c.in-Ok-None.field-0-is at (c.in-Ok-None.ensures.answer contexts pdu front text)))

pub returns-in-Err-2-clause-left : goal.returns-in-Err-2-clause-left
returns-in-Err-2-clause-left c contexts pdu front text =
    let memory : in_table c.in-Err.refused.refusal ≢ None = subst (λ (b : Bool). MemoryIs c.in-Err.refused.refusal b) c.if-is_memory.false c.is_memory.ensures in
    (c.refuse.new.self, not_memory _ c.in-Err.refused.refusal memory (c.in-Err.ensures.answer contexts pdu front text))
