use Rattle.std.proofs.Common.{◌≡◌, ◌≤◌, ◌∙◌, ap, subst}
use Rattle.snmp_ber.specs.declared.number.TheConstants.{MAX_INTEGER32}
use Rattle.snmp_handles.specs.Managers.{IsOutOfRange}
use Rattle.snmp_handles.specs.Asked.{AnswersRequest, asking_of}
use Rattle.snmp_handles.specs.ManyRequests.{with_id}
use Rattle.snmp_handles.proofs.ManyAsks.{asking_with, in_range}
use Rattle.snmp_handles.proofs.many_requests.write_ask.Goals as goal

pub returns-clause-answer : goal.returns-clause-answer
returns-clause-answer c =
    let asked = c.in-Some.asked in
    let same : asking_of asked.of ≡ with_id (asking_of c.args.of.now) c.args.token = ap asking_of c.in-Some.ensures.1 ∙ asking_with c.args.of.now c.message_id.result c.args.token c.message_id.ensures.id in
    (asked.level, c.in-Some.ensures.2, subst (λ ask. AnswersRequest c.args.manager.now c.args.now ask asked.level c.args.list.now c.args.salt c.request.result) same c.request.ensures.answer)

pub returns-in_default-clause-answer : goal.returns-in_default-clause-answer
returns-in_default-clause-answer c =
    absurd (in_range (asking_of c.args.of.now) c.args.token c.requires (subst (λ n. n ≤ MAX_INTEGER32) c.message_id.ensures.id c.message_id.ensures.small)
    (subst IsOutOfRange (asking_with c.args.of.now c.message_id.result c.args.token c.message_id.ensures.id) c.in_default.ensures))
