use Rattle.std.proofs.Common.{List, arith, ap, length, subst, sym, ◌∙◌, All, ℕ}
use Rattle.std.proofs.lemmas.Slice.Zip.{AllZip-long}
use Rattle.std.specs.List.{AllZip}
use Rattle.snmp_msg.specs.Variables.{Variable, variables_of}
use Rattle.vacm_core.specs.declared.access.Access.{Access}
use Rattle.vacm_core.specs.declared.access.ViewType.TheVariants.{Write}
use Rattle.snmp_gate.specs.Messages.{IsAnswerFor, question_given, set_in}
use Rattle.snmp_gate.specs.Access.{IsFirstRefused}
use Rattle.snmp_gate.proofs.Contextless.{unknown_refused}
use Rattle.snmp_gate.proofs.Erring.{set_cause}
use Rattle.snmp_gate.proofs.Granted.{may_all}
use Rattle.snmp_gate.proofs.first_work.set_access.Goals as goal

pub returns-in-Some-clause-ends : goal.returns-in-Some-clause-ends
returns-in-Some-clause-ends c q told set nothing = c.ending_of.ensures.stands c.args.tables.now q told nothing (set_cause c.args.tables.now q c.in-Some.refusal set)

pub returns-clause-may : goal.returns-clause-may
returns-clause-may c none q asked set =
    let client = c.args.message.now.client.items in
    let tables = c.args.tables.now in
    let given = ap (question_given client) c.taken-taken.ensures ∙ asked in
    let pdu = c.pdu_of-pdu.ensures.asked client q given in
    let viewer = c.viewer_of-viewer.ensures client q given in
    subst (λ (octets : List ℕ). All (λ (v : Variable). set_in tables q v.name) (variables_of octets)) pdu.list
    (may_all tables q c.viewer_of-viewer.result c.pdu_of-pdu.result.tag (variables_of c.pdu_of-pdu.result.list.now) c.deref.result.now viewer (pdu.tag ∙ set)
    (subst (λ (answers : List Access). AllZip (IsAnswerFor c.viewer_of-viewer.result Write) (variables_of c.pdu_of-pdu.result.list.now) answers) (sym c.deref.ensures.value) c.in_ok-answers.ensures)
    c.in-None.ensures)

pub returns-clause-bindings : goal.returns-clause-bindings
returns-clause-bindings c q asked =
    let client = c.args.message.now.client.items in
    let pdu = c.pdu_of-pdu.ensures.asked client q (ap (question_given client) c.taken-taken.ensures ∙ asked) in
    let answers = c.in_ok-answers.answers.items in
    omega (
      arith,
      c.len-bindings.ensures,
      c.deref.ensures.len,
      AllZip-long (IsAnswerFor c.viewer_of-viewer.result Write) (variables_of c.pdu_of-pdu.result.list.now) answers c.in_ok-answers.ensures,
      ap (λ (octets : List ℕ). length (variables_of octets)) pdu.list,
    )

pub returns-in-Some-clause-bindings : goal.returns-in-Some-clause-bindings
returns-in-Some-clause-bindings c q asked =
    let client = c.args.message.now.client.items in
    let pdu = c.pdu_of-pdu.ensures.asked client q (ap (question_given client) c.taken-taken.ensures ∙ asked) in
    let answers = c.in_ok-answers.answers.items in
    omega (
      arith,
      c.len-bindings.ensures,
      c.deref.ensures.len,
      AllZip-long (IsAnswerFor c.viewer_of-viewer.result Write) (variables_of c.pdu_of-pdu.result.list.now) answers c.in_ok-answers.ensures,
      ap (λ (octets : List ℕ). length (variables_of octets)) pdu.list,
    )

pub returns-in-Some-clause-cause : goal.returns-in-Some-clause-cause
returns-in-Some-clause-cause c engine devices q asked set =
    let client = c.args.message.now.client.items in
    let tables = c.args.tables.now in
    let given = ap (question_given client) c.taken-taken.ensures ∙ asked in
    let viewer = c.viewer_of-viewer.result in
    let pdu = c.pdu_of-pdu.result in
    let answers = c.in_ok-answers.answers.items in
    let first = subst (λ (xs : List Access). IsFirstRefused pdu.tag xs c.in-Some.refusal) c.deref.ensures.value c.in-Some.ensures in
    c.ending_of.ensures.cause engine tables devices q
    (unknown_refused Write tables q viewer pdu.tag (variables_of pdu.list.now) answers c.in-Some.refusal (c.viewer_of-viewer.ensures client q given) c.in_ok-answers.ensures first)
