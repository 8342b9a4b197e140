use Rattle.std.proofs.Common.{◌≡◌, subst, ap}
use Rattle.snmp_message.specs.Scoped.{Contexts, contexts_of}
use Rattle.vacm_core.specs.Tables.{Tables}
use Rattle.vacm_core.specs.Allowed.{Allowed}
use Rattle.snmp_incoming.specs.Texts.{text_of}
use Rattle.snmp_incoming.specs.Answers.{given_of}
use Rattle.snmp_agent.specs.Agent.{AgentState}
use Rattle.snmp_agent.specs.Decides.{question_of}
use Rattle.snmp_agent.proofs.agent.Agent.allows.Goals as goal

pub returns : goal.returns
returns c s front =
    let same : contexts_of c.scoped-scoped.result ≡ s = c.one_content.ensures.front (text_of c.args.taken.now.text) (contexts_of c.scoped-scoped.result) s c.scoped-scoped.ensures front in
    let tables = ap (λ (a : AgentState). a.tables) c.self.view_is in
    subst (λ (t : Tables). Allowed t (question_of (given_of c.args.taken.now) s) c.args.view c.args.variable.now c.is_access_allowed.result) tables
    (subst (λ (x : Contexts). Allowed c.self.inside.vacm (question_of (given_of c.args.taken.now) x) c.args.view c.args.variable.now c.is_access_allowed.result) same c.is_access_allowed.ensures.answer)
