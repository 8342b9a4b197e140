use Rattle.std.proofs.Common.{ap, arith, subst, sym, ◌∙◌, ◌≤◌, Option}
use Rattle.snmp_msg.specs.Pdu.{pdu_of}
use Rattle.snmp_walk.specs.declared.answer.AnswerFault.{AnswerFault}
use Rattle.snmp_gate.specs.Bounds.{for_device}
use Rattle.snmp_gate.specs.Fits.{TaskFits, WorkFits}
use Rattle.snmp_gate.specs.Messages.{seen_in}
use Rattle.snmp_gate.specs.Work.{SaysAll, TaskStands, most_repetitions, request_of_task}
use Rattle.snmp_gate.specs.declared.work.OpenRequest.{OpenRequest}
use Rattle.snmp_gate.specs.declared.work.Work.{Work}
use Rattle.snmp_gate.proofs.Shares.{same_device}
use Rattle.snmp_gate.proofs.Endings.{after_same, one_open}
use Rattle.snmp_gate.proofs.take_device.take_answer.Goals as goal

pub returns-clause-after : goal.returns-clause-after
returns-clause-after c o q told asked is says stands =
    let tables = c.args.tables.now in
    let same = one_open c.args.work.now c.in-Open.waiting o c.in-Open.is is in
    let took = c.in_ok-became.ensures.stands q told asked
    (subst (λ (x : OpenRequest). SaysAll (request_of_task q x.task.task) c.args.answer.now told) (sym same) says)
    (subst (λ (x : OpenRequest). TaskStands tables q told x.task.task) (sym same) stands) in
    let new : OpenRequest = c.take_open.new.waiting in
    after_same tables q told new o c.after_answer.result (c.in_ok-became.ensures.device ∙ ap (λ (x : OpenRequest). x.device) same)
    (c.in_ok-became.ensures.timer ∙ ap (λ (x : OpenRequest). x.timer) same)
    (subst (λ (x : OpenRequest). most_repetitions new.task.task ≤ most_repetitions x.task.task) same
    (c.in_ok-became.ensures.repeats tables q told (subst (λ (x : OpenRequest). TaskStands tables q told x.task.task) (sym same) stands)))
    (c.after_answer.ensures.after new q told asked c.replace-old.ensures.value took.1 took.0)

pub returns-clause-fits : goal.returns-clause-fits
returns-clause-fits c q asked =
    let Seen = seen_in c.args.tables.now q in
    let answer = pdu_of c.args.answer.now in
    subst (λ (w : Work). WorkFits Seen w answer c.fault_in.result) (sym c.in-Open.is)
    (subst (λ (fault : Option AnswerFault). TaskFits Seen c.in-Open.waiting.task.task answer fault) (sym c.fault_in.ensures) (c.in_ok-became.ensures.fits q asked))

pub returns-clause-device : goal.returns-clause-device
returns-clause-device c device =
    omega (arith, c.after_answer.ensures.device device, ap (for_device device) c.replace-old.ensures.value, same_device c.in-Open.waiting c.take_open.new.waiting c.in_ok-became.ensures.device device, ap (for_device device) c.in-Open.is)
