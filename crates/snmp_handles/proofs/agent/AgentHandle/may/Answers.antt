use Rattle.std.proofs.Common.{◌≡◌, Some, subst, rules}
use Rattle.snmp_agent.specs.Decides.{question}
use Rattle.vacm_core.specs.Allowed.{Allowed}
use Rattle.snmp_handles.specs.Agents.{AgentHeld, AreNoArcs}
use Rattle.snmp_handles.specs.Numbers.{level_of, view_of}
use Rattle.snmp_handles.proofs.agent.AgentHandle.may.Goals as goal

pub returns : goal.returns
returns c =
    let level_is : level_of c.args.level ≡ Some c.in-Some.level = search rules in
    let view_is : view_of c.args.view ≡ Some c.in-Some-Some.view = search rules in
    let arcs : c.in-Some-Some.variable ≡ c.args.arcs.now = c.in-Some-Some.ensures'.value in
    let allowed : Allowed c.args.self.now.agent.tables (question c.args.user.now c.in-Some.level c.args.context.now) c.in-Some-Some.view c.args.arcs.now c.may.result
    = subst (λ (h : AgentHeld). Allowed h.agent.tables (question c.args.user.now c.in-Some.level c.args.context.now) c.in-Some-Some.view c.args.arcs.now c.may.result) c.self.view_is (rw arcs at c.may.ensures) in
    let arcs_fit : AreNoArcs c.args.arcs.now → ⊥ = search rules in
    (c.in-Some.level, c.in-Some-Some.view, level_is, view_is, arcs_fit, allowed)
