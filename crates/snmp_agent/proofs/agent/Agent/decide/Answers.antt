use Rattle.std.proofs.Common.{◌≡◌, ◌≢◌, sym, subst, ap, List, ℕ}
use Rattle.snmp_message.specs.Scoped.{Contexts, contexts_of}
use Rattle.snmp_msg.specs.Pdu.{PduParts, pdu_of}
use Rattle.snmp_msg.specs.Variables.{AreBindings}
use Rattle.vacm_core.specs.Tables.{Tables}
use Rattle.snmp_incoming.specs.Texts.{text_of}
use Rattle.snmp_incoming.specs.Answers.{given_of}
use Rattle.snmp_agent.specs.Agent.{AgentState}
use Rattle.snmp_agent.specs.Decides.{question_of, IsDecidedBy, AreAnswers}
use Rattle.snmp_agent.proofs.agent.Agent.decide.Goals as goal

pub returns-in-None-clause-decision : goal.returns-in-None-clause-decision
returns-in-None-clause-decision c s p front is_pdu =
    let same_pdu : pdu_of c.pdu-pdu.result ≡ p = c.one_pdu.ensures.pdu s.pdu (pdu_of c.pdu-pdu.result) p (c.pdu-pdu.ensures.is_pdu s front) is_pdu in
    subst (λ (y : PduParts). (y.tag ≢ 160) × (y.tag ≢ 163)) same_pdu c.in-None.ensures

pub returns-clause-decision : goal.returns-clause-decision
returns-clause-decision c s p front is_pdu =
    let same : contexts_of c.scoped-scoped.result ≡ s = c.one_content.ensures.front (text_of c.args.taken.now.text) (contexts_of c.scoped-scoped.result) s c.scoped-scoped.ensures front in
    let same_pdu : pdu_of c.pdu-pdu.result ≡ p = c.one_pdu.ensures.pdu s.pdu (pdu_of c.pdu-pdu.result) p (c.pdu-pdu.ensures.is_pdu s front) is_pdu in
    let tables = ap (λ (a : AgentState). a.tables) c.self.view_is in
    let list = ap (λ (y : PduParts). y.list) same_pdu in
    let bindings : AreBindings is_pdu.says.variables c.pdu-pdu.result.list.now = subst (λ (l : List ℕ). AreBindings is_pdu.says.variables l) (sym list) is_pdu.says.are_bindings in
    let zip = c.in_ok-answers.ensures is_pdu.says.variables bindings in
    let So = λ (t : Tables) (x : Contexts). AreAnswers t (question_of (given_of c.args.taken.now) x) c.in-Some.view is_pdu.says.variables c.in_ok-answers.answers.items in (
      c.in-Some.view,
      subst (λ (y : PduParts). IsDecidedBy y.tag c.in-Some.view) same_pdu c.in-Some.ensures,
      (is_pdu.says.variables, is_pdu.says.are_bindings, subst (λ (t : Tables). So t s) tables (subst (λ (x : Contexts). So c.self.inside.vacm x) same zip)),
    )
