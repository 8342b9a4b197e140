use Rattle.std.proofs.Common.{ℕ, List, Some, subst, ap}
use Rattle.std.specs.Int.{to_be_bytes, w64}
use Rattle.snmp_incoming.specs.Outcome.{Given}
use Rattle.snmp_agent.specs.Agent.{AgentState}
use Rattle.snmp_handles.specs.Agents.{AgentHeld, IsAsked, LeavesMessage}
use Rattle.snmp_handles.specs.Dispatch.{IsFrontResponse}
use Rattle.snmp_handles.proofs.agent.AgentHandle.respond_front.Goals as goal

pub returns-in-Ok : goal.returns-in-Ok
returns-in-Ok c =
    let salt : List ℕ = to_be_bytes w64 c.args.salt in
    let text : List ℕ = c.in-Ok.fronted.text.items in
    let reply = c.in-Some.ensures in
    let wrap : AgentState → AgentHeld = λ a. record { agent = a; last = c.self.inside.last; message = Some text } in
    let P : AgentHeld → Type 0 = λ h. (g : Given) × (t : List ℕ) × IsAsked h g × IsFrontResponse h.agent c.args.now g c.args.status c.args.index c.args.list.now salt c.args.limit (record { text = t; count = c.in-Ok.fronted.count }) × LeavesMessage h t (wrap c.response_front.new.agent) in
    let says : IsFrontResponse c.self.inside.agent c.args.now c.in-Some-last.kept c.args.status c.args.index c.args.list.now salt c.args.limit (record { text = text; count = c.in-Ok.fronted.count }) = rw (reply.1, reply.2, reply.3, reply.4) at c.in-Ok.ensures.answer.1 in
    (reply.0, subst P c.self.view_is (c.in-Some-last.kept, text, (c.in-Some-last.is, c.in-Ok.ensures.answer.0), says, ap wrap c.in-Ok.ensures.same))
