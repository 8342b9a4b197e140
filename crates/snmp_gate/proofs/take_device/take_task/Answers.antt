use Rattle.std.proofs.Common.{subst, sym, ◌≤◌}
use Rattle.snmp_gate.specs.Ends.{FailsOrGoesOn}
use Rattle.snmp_gate.specs.Work.{BulkAskStands, ReadStands, SaysAll, TaskHas, TaskStands, most_repetitions, request_of_task}
use Rattle.snmp_gate.specs.declared.task.Task.{Task}
use Rattle.snmp_gate.proofs.Endings.{fails_end, set_taken}
use Rattle.snmp_gate.proofs.Telling.{no_bulk, no_read}
use Rattle.snmp_gate.proofs.Sending.{on_both, on_ok}
use Rattle.snmp_gate.proofs.take_device.take_task.Goals as goal

pub returns-in-Read-clause-stands : goal.returns-in-Read-clause-stands
returns-in-Read-clause-stands c =
    on_ok c.take_read.result _ _ (λ taken both tables q told viewer says stands. (
      both.0 tables q told c.in-Read.field-0 viewer
          (subst (λ (t : Task). SaysAll (request_of_task q t) c.args.answer.now told) c.in-Read.is says)
          (subst (TaskStands tables q told) c.in-Read.is stands),
      (let known : ReadStands tables q told c.in-Read.field-0 c.in-Read.dialogue = subst (TaskStands tables q told) c.in-Read.is stands in
          fails_end tables q told taken (no_read q c.in-Read.field-0 known.tag) both.1.0 (both.1.1 tables q told c.in-Read.field-0 (subst (λ (t : Task). SaysAll (request_of_task q t) c.args.answer.now told) c.in-Read.is says) known)),
    )) (on_both c.take_read.result _ _ c.take_read.ensures.stands (on_both c.take_read.result FailsOrGoesOn _ c.take_read.ensures.fails c.take_read.ensures.errs))

pub returns-in-Bulk-clause-stands : goal.returns-in-Bulk-clause-stands
returns-in-Bulk-clause-stands c =
    on_ok c.take_bulk.result _ _ (λ taken both tables q told viewer says stands. (
      both.0 tables q told c.in-Bulk.field-0 viewer
          (subst (λ (t : Task). SaysAll (request_of_task q t) c.args.answer.now told) c.in-Bulk.is says)
          (subst (TaskStands tables q told) c.in-Bulk.is stands),
      (let known : BulkAskStands tables q told c.in-Bulk.field-0 c.in-Bulk.dialogue = subst (TaskStands tables q told) c.in-Bulk.is stands in
          fails_end tables q told taken (no_bulk q known.dialogue.tag) both.1.0 (both.1.1 tables q told known.dialogue)),
    )) (on_both c.take_bulk.result _ _ c.take_bulk.ensures.stands (on_both c.take_bulk.result FailsOrGoesOn _ c.take_bulk.ensures.fails c.take_bulk.ensures.errs))

pub returns-in-Set-clause-stands : goal.returns-in-Set-clause-stands
returns-in-Set-clause-stands c tables q told viewer says stands =
    let all = subst (λ (t : Task). SaysAll (request_of_task q t) c.args.answer.now told) c.in-Set.is says in
    let known = subst (TaskStands tables q told) c.in-Set.is stands in
    (subst (TaskHas tables q told) (sym c.in-Set.is) known, set_taken tables q told c.args.answer.now c.take_set.result all known c.take_set.ensures)

pub returns-in-Bulk-clause-repeats : goal.returns-in-Bulk-clause-repeats
returns-in-Bulk-clause-repeats c =
    on_ok c.take_bulk.result _ _ (λ taken fewer tables q told stands.
    let known : BulkAskStands tables q told c.in-Bulk.field-0 c.in-Bulk.dialogue = subst (TaskStands tables q told) c.in-Bulk.is stands in
    subst (λ (t : Task). c.take_bulk.new.dialogue.repetitions ≤ most_repetitions t) (sym c.in-Bulk.is) (fewer c.in-Bulk.field-0 known.asked))
    c.take_bulk.ensures.repeats
