use Rattle.snmp_gate.proofs.Standing.{bulk_taken}
use Rattle.std.specs.Prelude.{length}
use Rattle.std.proofs.Common.{refl, subst}
use Rattle.snmp_msg.specs.Variables.{variables_of}
use Rattle.snmp_responder.specs.Code.{seen_by}
use Rattle.snmp_walk.specs.BulkAnswered.{IsBulkAnswered}
use Rattle.snmp_gate.specs.ReadErrors.{gen_err, too_big}
use Rattle.snmp_gate.proofs.Erring.{bulk_long, bulk_within}
use Rattle.snmp_gate.proofs.onward.take_bulk.Goals as goal

pub returns-in-Taken-clause-stands : goal.returns-in-Taken-clause-stands
returns-in-Taken-clause-stands c tables q told by viewer says stands =
    bulk_taken tables q told c.args.viewer.now by c.args.answer.now c.args.dialogue.now c.take.new.self c.in_ok-take.field-0 viewer says c.in_ok-take.ensures.answered (c.in_ok-take.ensures.stand told.variables) c.in_ok-take.ensures.requests stands

pub returns-in-Unfit-clause-stands : goal.returns-in-Unfit-clause-stands
returns-in-Unfit-clause-stands c tables q told by viewer says stands =
    bulk_taken tables q told c.args.viewer.now by c.args.answer.now c.args.dialogue.now c.take.new.self c.in_ok-take.field-0 viewer says c.in_ok-take.ensures.answered (c.in_ok-take.ensures.stand told.variables) c.in_ok-take.ensures.requests stands

pub returns-in-TooBig-clause-errs : goal.returns-in-TooBig-clause-errs
returns-in-TooBig-clause-errs c tables q told stands = too_big refl refl

pub returns-in-Failed-clause-errs : goal.returns-in-Failed-clause-errs
returns-in-Failed-clause-errs c tables q told stands =
    let answered = subst (IsBulkAnswered (seen_by c.args.viewer.now) c.args.answer.now c.args.dialogue.now c.take.new.self) c.in-Failed.is c.in_ok-take.ensures.answered in
    let n = length (variables_of q.list) in
    gen_err c.gen_err.ensures.status (c.gen_err.ensures.index n (bulk_within c.args.dialogue.now.columns.items c.args.answer.now c.in-Failed.column n (bulk_long tables q told c.args.dialogue.now stands) answered.2))
