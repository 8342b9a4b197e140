use Rattle.std.proofs.Common.{List, arith, subst, ℕ}
use Rattle.std.specs.List.{AllZip}
use Rattle.vacm_core.specs.declared.access.Access.{Access}
use Rattle.snmp_gate.specs.Access.{IsFirstRefused}
use Rattle.snmp_gate.proofs.Contextless.{unknown_refused}
use Rattle.snmp_gate.proofs.Erring.{refusal_cause}
use Rattle.std.proofs.lemmas.Slice.Zip.{AllZip-long}
use Rattle.snmp_msg.specs.Variables.{variables_of}
use Rattle.vacm_core.specs.declared.access.ViewType.TheVariants.{Read}
use Rattle.snmp_gate.specs.Messages.{IsAnswerFor}
use Rattle.snmp_gate.proofs.begin.begin.Goals as goal

pub returns-in-Some-clause-stands : goal.returns-in-Some-clause-stands
returns-in-Some-clause-stands c tables q told nothing viewer of =
    let answers = c.in_ok-answers.answers.items in
    let zip = subst (λ (list : List ℕ). AllZip (IsAnswerFor c.args.viewer.now Read) (variables_of list) answers) of.list c.in_ok-answers.ensures in
    let first = subst (λ (xs : List Access). IsFirstRefused c.args.pdu.now.tag xs c.in-Some.refusal) c.deref.ensures.value c.in-Some.ensures in
    c.ending_of.ensures.stands tables q told nothing (refusal_cause tables q c.args.viewer.now c.args.pdu.now.tag answers c.in-Some.refusal viewer of.tag zip first)

pub returns-then-len-gt-MOST_VARIABLES-clause-stands : goal.returns-then-len-gt-MOST_VARIABLES-clause-stands
returns-then-len-gt-MOST_VARIABLES-clause-stands c tables q told nothing viewer of = c.asks_too_much.ensures.stands tables q told

pub begin_bulk-requires : goal.begin_bulk-requires
begin_bulk-requires c =
    let answers = c.in_ok-answers.answers.items in
    omega (arith, c.if-len-gt-MOST_VARIABLES.false, c.len.ensures, c.deref.ensures.len, AllZip-long (IsAnswerFor c.args.viewer.now Read) (variables_of c.args.pdu.now.list.now) answers c.in_ok-answers.ensures)

pub returns-in-Some-clause-cause : goal.returns-in-Some-clause-cause
returns-in-Some-clause-cause c engine tables devices q viewer of read =
    let answers = c.in_ok-answers.answers.items in
    let zip = subst (λ (list : List ℕ). AllZip (IsAnswerFor c.args.viewer.now Read) (variables_of list) answers) of.list c.in_ok-answers.ensures in
    let first = subst (λ (xs : List Access). IsFirstRefused c.args.pdu.now.tag xs c.in-Some.refusal) c.deref.ensures.value c.in-Some.ensures in
    c.ending_of.ensures.cause engine tables devices q (unknown_refused Read tables q c.args.viewer.now c.args.pdu.now.tag (variables_of q.list) answers c.in-Some.refusal viewer zip first)
