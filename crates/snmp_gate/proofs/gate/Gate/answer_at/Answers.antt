use Rattle.std.proofs.Common.{Option, ap, inl, refl, subst, sym, ◌∙◌}
use Rattle.snmp_agent.specs.Agent.{AgentState}
use Rattle.snmp_gate.specs.Due.{HasEnded}
use Rattle.snmp_gate.specs.Groups.{IsAnswered, groups_of}
use Rattle.snmp_gate.specs.declared.requests.WaitingRequest.{WaitingRequest}
use Rattle.snmp_gate.specs.declared.requests.WaitingRequests.{WaitingRequests}
use Rattle.snmp_gate.specs.declared.waiting_message.WaitingMessage.{WaitingMessage}
use Rattle.snmp_gate.specs.declared.work.Work.{Work}
use Rattle.snmp_gate.specs.Noting.{IsToldOf}
use Rattle.snmp_gate.specs.Waiting.{fresh}
use Rattle.snmp_gate.specs.declared.set_answer.ResponseStatus.{ResponseStatus}
use Rattle.snmp_gate.proofs.Bounded.{stays_answered, stays_counted}
use Rattle.snmp_gate.proofs.GroupSteps.{on_err}
use Rattle.snmp_gate.proofs.Histories.{IsLeftAfter}
use Rattle.snmp_gate.proofs.Keeping.{as_before}
use Rattle.snmp_gate.proofs.SetsGoing.{reply_happens}
use Rattle.snmp_gate.proofs.Told.{sent_tells}
use Rattle.snmp_gate.specs.Told.{TellsEnd}
use Rattle.std.proofs.lemmas.List.Elements.{at_read}
use Rattle.snmp_gate.proofs.gate.Gate.answer_at.Goals as goal

pub reply_now-requires : goal.reply_now-requires
reply_now-requires c = subst (λ (r : WaitingRequest WaitingMessage Work). HasEnded r.work) (sym c.index-request.ensures) (c.requires.ended c.index-request.result.now)

pub returns-clause-happens : goal.returns-clause-happens
returns-clause-happens c since ask_id before later stands =
    let g = c.args.self.now in
    let r = c.index-request.result.now in
    let m = c.answer-message.result in
    let left : IsLeftAfter g c.args.place m c.tell_set.new.self = record {
      engine = ap (λ (a : AgentState). a.engine) c.tell_set.ensures.same.agent ∙ c.in_ok-reply.ensures.same.engine;
      tables = ap (λ (a : AgentState). a.tables) c.tell_set.ensures.same.agent ∙ c.in_ok-reply.ensures.same.tables;
      devices = c.tell_set.ensures.same.devices;
      limits = c.tell_set.ensures.same.limits;
      next = ap (λ (rs : WaitingRequests WaitingMessage Work). rs.next) c.tell_set.ensures.same.requests ∙ c.answer-message.ensures.next;
      answer = subst (λ (rs : WaitingRequests WaitingMessage Work). IsAnswered (groups_of g.requests.list.items) c.args.place m (groups_of rs.list.items)) (sym c.tell_set.ensures.same.requests) c.answer-message.ensures.answered;
    } in
    reply_happens g c.tell_set.new.self since c.args.now before c.args.place (fresh c.args.salt ask_id) r m m c.end_of-ended.result c.in_ok-reply.reply c.sent_by.result later c.requires.place c.index-request.ensures
    left refl c.in_ok-reply.ensures.sent c.sent_by.ensures.is c.tell_set.ensures.same.asks
    (subst (λ (s : Option ResponseStatus). IsToldOf m s g.sets.sets.items c.tell_set.new.self.sets.sets.items) c.said_by.ensures c.tell_set.ensures.told) c.in_ok-reply.ensures.left c.in_ok-reply.ensures.short stands

pub returns-clause-stays : goal.returns-clause-stays
returns-clause-stays c =
    let g = c.args.self.now in
    stays_answered g (record g { agent = c.reply_now.new.agent; requests = c.answer-message.new.self }) c.tell_set.new.self c.args.place c.answer-message.result c.in_ok-reply.ensures.same refl refl refl c.answer-message.ensures.answered
    c.answer-message.ensures.most c.answer-message.ensures.most_messages c.tell_set.ensures.same

pub returns-in_err-reply-clause-err : goal.returns-in_err-reply-clause-err
returns-in_err-reply-clause-err c =
    let g = c.args.self.now in
    on_err c.from_residual.result _ (as_before c.args.now g (record g { agent = c.reply_now.new.agent }) c.in_err-reply.ensures.err refl refl refl refl refl (inl refl))

pub returns-in_err-reply-clause-stays : goal.returns-in_err-reply-clause-stays
returns-in_err-reply-clause-stays c =
    let g = c.args.self.now in
    stays_counted g (record g { agent = c.reply_now.new.agent }) c.in_err-reply.ensures.same refl refl refl refl

pub returns-in_err-reply-clause-same : goal.returns-in_err-reply-clause-same
returns-in_err-reply-clause-same c =
    let g = c.args.self.now in
    on_err c.from_residual.result _ (λ i. record g { agent = c.in_err-reply.ensures.err i })

pub returns-clause-told : goal.returns-clause-told
returns-clause-told c =
    let r = c.index-request.result.now in
    at_read c.args.self.now.requests.list.items (TellsEnd c.sent_by.result) c.args.place r c.requires.place c.index-request.ensures
    (sent_tells r.number c.answer-message.result c.end_of-ended.result c.in_ok-reply.reply c.sent_by.result r c.sent_by.ensures.is refl c.end_of-ended.ensures)
