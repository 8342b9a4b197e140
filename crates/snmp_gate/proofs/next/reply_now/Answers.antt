use Rattle.std.proofs.Common.{sym, subst}
use Rattle.snmp_message.specs.Scoped.{ScopedFront, contexts_of}
use Rattle.snmp_msg.specs.Pdu.{pdu_of}
use Rattle.snmp_incoming.specs.Outcome.{Given}
use Rattle.snmp_gate.specs.Limits.{IsLimit}
use Rattle.snmp_gate.specs.Sending.{RepliesTo}
use Rattle.snmp_gate.proofs.Sending.{short_for}
use Rattle.snmp_gate.specs.declared.work.Work.{Work}
use Rattle.snmp_gate.proofs.next.reply_now.Goals as goal

pub returns-clause-sent : goal.returns-clause-sent
returns-clause-sent c q said asked =
    subst (λ (w : Work). RepliesTo c.args.agent.now c.args.seconds c.args.salt q said c.args.request.now.first.kept w c.in_ok-reply.reply) (sym c.in-Ends.is)
    (λ stands. c.in_ok-reply.ensures.sent q said asked stands)

pub returns-clause-short : goal.returns-clause-short
returns-clause-short c =
    let m = c.args.request.now.first in
    let given = c.taken-taken.ensures in
    let contexts = contexts_of c.scoped-scoped.result in
    let front = subst (λ (g : Given). ScopedFront g.text contexts) given c.scoped-scoped.ensures in
    let is = subst (λ (g : Given). IsLimit c.args.limits.now g.level g.max_size m.size c.limit_of.result) given c.limit_of.ensures in
    short_for c.args.limits.now m c.limit_of.result c.in_ok-reply.reply is (c.in_ok-reply.ensures.short contexts (pdu_of c.pdu-pdu.result) front (c.pdu-pdu.ensures.is_pdu contexts c.scoped-scoped.ensures))
