use Rattle.snmp_msg.specs.Variables.{variables_of}
use Rattle.snmp_responder.specs.Code.{seen_by}
use Rattle.snmp_gate.proofs.Standing.{read_stands, takes_tracking, tells}
use Rattle.std.proofs.Common.{subst}
use Rattle.snmp_walk.specs.Answer.{IsAnswered}
use Rattle.snmp_gate.proofs.Erring.{read_errs}
use Rattle.snmp_gate.proofs.onward.take_read.Goals as goal

pub returns-in-Taken-clause-stands : goal.returns-in-Taken-clause-stands
returns-in-Taken-clause-stands c tables q told operation viewer says stands =
    read_stands tables q told c.args.viewer.now operation c.args.dialogue.now c.take.new.self viewer
    (c.in_ok-take.ensures.stand told.variables (tells (seen_by c.args.viewer.now) told operation c.args.answer.now c.args.dialogue.now c.take.new.self c.in_ok-take.field-0 says c.in_ok-take.ensures.answered))
    (takes_tracking c.args.viewer.now operation told (variables_of q.list) c.args.answer.now c.args.dialogue.now c.take.new.self c.in_ok-take.field-0 stands.requests_are says c.in_ok-take.ensures.answered)
    c.in_ok-take.ensures.requests stands

pub returns-in-Failed-clause-errs : goal.returns-in-Failed-clause-errs
returns-in-Failed-clause-errs c tables q told operation says stands =
    let answered = subst (IsAnswered (seen_by c.args.viewer.now) c.args.answer.now c.args.dialogue.now c.take.new.self) c.in-Failed.is c.in_ok-take.ensures.answered in
    read_errs tables q told operation c.args.answer.now c.args.dialogue.now c.in-Failed.failure c.status_of.result says stands answered.1 c.status_of.ensures.is
