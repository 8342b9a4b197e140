use Rattle.std.proofs.Common.{sym, subst, List, All, Contains, map}
use Rattle.snmp_msg.specs.Variables.{Variable, variables_of}
use Rattle.snmp_responder.specs.Code.{seen_by}
use Rattle.snmp_walk.specs.Bindings.{given_says}
use Rattle.snmp_walk.specs.Dialogue.{AnswersAll, asks_of}
use Rattle.snmp_walk.specs.declared.column.Column.{Column}
use Rattle.snmp_walk.proofs.After.{same_after, stand_after}
use Rattle.snmp_walk.proofs.Each.{same_after_taking, stand_after_taking}
use Rattle.snmp_walk.proofs.Named.{named_after, named_after_taking}
use Rattle.snmp_walk.proofs.Names.{HasObjectId, all_named}
use Rattle.snmp_walk.proofs.dialogue.Dialogue.take.Goals as goal

pub returns-then-not-is_no_error-clause-answered : goal.returns-then-not-is_no_error-clause-answered
returns-then-not-is_no_error-clause-answered c = c.take_error.ensures c.args.viewer.now

pub returns-then-not-is_no_error-clause-requests : goal.returns-then-not-is_no_error-clause-requests
returns-then-not-is_no_error-clause-requests c =
    same_after (seen_by c.args.viewer.now) c.args.self.now c.take_error.new.self c.args.answer.now c.take_error.result (c.take_error.ensures c.args.viewer.now)

pub returns-then-not-is_no_error-clause-stand : goal.returns-then-not-is_no_error-clause-stand
returns-then-not-is_no_error-clause-stand c told tells stand =
    stand_after (seen_by c.args.viewer.now) told c.args.self.now c.take_error.new.self c.args.answer.now c.take_error.result (c.take_error.ensures c.args.viewer.now) tells stand

pub returns-clause-requests : goal.returns-clause-requests
returns-clause-requests c =
    same_after_taking (seen_by c.args.viewer.now) c.args.self.now.columns.items (map given_says c.in_ok-given.given.items) c.take_each.new.columns.items c.take_each.ensures

pub returns-clause-stand : goal.returns-clause-stand
returns-clause-stand c told there stand =
    let seen = seen_by c.args.viewer.now in
    let olds = c.args.self.now.columns.items in
    let said = variables_of c.args.answer.now.list.now in
    let vs = map given_says c.in_ok-given.given.items in
    let same = sym c.in_ok-given.ensures in
    let fit = subst (λ (cs : List Column). AnswersAll (asks_of cs) said) c.as_slice.ensures.value c.in_default.ensures in
    stand_after_taking seen told olds vs c.take_each.new.columns.items (subst (All (Contains told)) same there) (subst (λ (ws : List Variable). AnswersAll (asks_of olds) ws) same fit) c.take_each.ensures stand

pub returns-then-not-is_no_error-clause-named : goal.returns-then-not-is_no_error-clause-named
returns-then-not-is_no_error-clause-named c =
    named_after (seen_by c.args.viewer.now) c.args.self.now c.take_error.new.self c.args.answer.now c.take_error.result (c.take_error.ensures c.args.viewer.now)

pub returns-clause-named : goal.returns-clause-named
returns-clause-named c =
    named_after_taking (seen_by c.args.viewer.now) c.args.self.now.columns.items (map given_says c.in_ok-given.given.items) c.take_each.new.columns.items c.take_each.ensures
    (subst (All HasObjectId) (sym c.in_ok-given.ensures) (all_named c.args.answer.now.list.now))
