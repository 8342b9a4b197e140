use Rattle.std.proofs.Common.{◌≡◌, Some, subst, rules}
use Rattle.snmp_message.specs.Scoped.{Contexts, ScopedFront}
use Rattle.snmp_agent.specs.Decides.{NextSeen, question_of}
use Rattle.snmp_handles.specs.Agents.{AgentHeld, AreNoArcs}
use Rattle.snmp_handles.specs.Numbers.{view_of}
use Rattle.snmp_handles.proofs.NextNames.{written_next}
use Rattle.snmp_handles.proofs.agent.AgentHandle.next.Goals as goal

pub returns-in-Some : goal.returns-in-Some
returns-in-Some c =
    let held : AgentHeld = c.args.self.now in
    let is : view_of c.args.view ≡ Some c.in-Some-Some.view = search rules in
    let arcs : c.in-Some-Some.from ≡ c.args.from.now = c.in-Some-Some.ensures'.value in
    let kept : held.last ≡ Some c.in-Some.kept = subst (λ (h : AgentHeld). h.last ≡ Some c.in-Some.kept) c.self.view_is c.in-Some.is in
    let seen : (k : Contexts) → ScopedFront c.in-Some.kept.text k → NextSeen held.agent.tables (question_of c.in-Some.kept k) c.in-Some-Some.view c.args.from.now c.next_of_sender-next.result
    = subst (λ (h : AgentHeld). (k : Contexts) → ScopedFront c.in-Some.kept.text k → NextSeen h.agent.tables (question_of c.in-Some.kept k) c.in-Some-Some.view c.args.from.now c.next_of_sender-next.result) c.self.view_is (rw arcs at c.next_of_sender-next.ensures) in
    let arcs_fit : AreNoArcs c.args.from.now → ⊥ = search rules in
    written_next held c.args.view c.args.from.now _ _ _ _ c.copy_name.result
    (c.in-Some.kept, c.in-Some-Some.view, c.next_of_sender-next.result, kept, is, arcs_fit, seen, c.copy_name.ensures)
