use Rattle.std.proofs.Common.{ap, subst, sym, ◌∙◌}
use Rattle.snmp_gate.specs.Bounds.{IsForNoOther}
use Rattle.snmp_gate.specs.declared.work.Work.{Work}
use Rattle.snmp_gate.specs.Messages.{question_given}
use Rattle.snmp_gate.specs.Taking.{WorkAfter}
use Rattle.snmp_gate.specs.Work.{TaskHas}
use Rattle.snmp_gate.specs.declared.work.OpenRequest.{OpenRequest}
use Rattle.snmp_gate.proofs.Endings.{one_open}
use Rattle.snmp_gate.proofs.take_device.after_answer.Goals as goal

pub returns-in-Open-clause-after : goal.returns-in-Open-clause-after
returns-in-Open-clause-after c o q told asked is ends stands =
    let client = c.args.message.now.client.items in
    let tables = c.args.tables.now in
    let same = one_open c.args.old c.in-Open.waiting o c.in-Open.is is in
    let viewer = c.viewer_of-viewer.ensures client q (ap (question_given client) c.taken-taken.ensures ∙ asked) in
    subst (λ (x : OpenRequest). WorkAfter tables q told x c.work_after.result) same
    (c.work_after.ensures.after tables q told viewer ends (subst (λ (x : OpenRequest). TaskHas tables q told x.task.task) (sym same) stands))

pub returns-in-Open-clause-device : goal.returns-in-Open-clause-device
returns-in-Open-clause-device c = subst (λ (w : Work). IsForNoOther w c.work_after.result) (sym c.in-Open.is) c.work_after.ensures.device
