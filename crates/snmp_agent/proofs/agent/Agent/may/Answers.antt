use Rattle.std.proofs.Common.{subst, ap}
use Rattle.vacm_core.specs.Tables.{Tables}
use Rattle.vacm_core.specs.Allowed.{Allowed}
use Rattle.snmp_agent.specs.Agent.{AgentState}
use Rattle.snmp_agent.specs.Decides.{question}
use Rattle.snmp_agent.proofs.agent.Agent.may.Goals as goal

pub returns : goal.returns
returns c =
    subst (λ (t : Tables). Allowed t (question c.args.user.now c.args.level c.args.context.now) c.args.view c.args.variable.now c.is_access_allowed.result) (ap (λ (a : AgentState). a.tables) c.self.view_is)
    c.is_access_allowed.ensures.answer
