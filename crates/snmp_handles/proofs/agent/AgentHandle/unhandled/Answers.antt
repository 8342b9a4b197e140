use Rattle.std.proofs.Common.{◌≡◌, Some, subst}
use Rattle.snmp_handles.specs.Agents.{AgentHeld}
use Rattle.snmp_handles.specs.Dispatch.{IsHandled}
use Rattle.snmp_handles.proofs.agent.AgentHandle.unhandled.Goals as goal

pub returns-in-Some : goal.returns-in-Some
returns-in-Some c =
    let kept : c.args.self.now.last ≡ Some c.in-Some.kept = subst (λ (h : AgentHeld). h.last ≡ Some c.in-Some.kept) c.self.view_is c.in-Some.is in
    (c.in-Some.kept, kept, subst (λ (h : AgentHeld). IsHandled h.agent c.in-Some.kept c.unhandled.result) c.self.view_is c.unhandled.ensures)
