use Rattle.std.proofs.Common.{ap, arith, subst, sym, ◌∙◌}
use Rattle.snmp_agent.specs.Agent.{AgentState}
use Rattle.snmp_gate.specs.Bounds.{AreBounded}
use Rattle.snmp_gate.specs.Groups.{IsWorked, groups_of}
use Rattle.snmp_gate.specs.declared.requests.WaitingRequests.{WaitingRequests}
use Rattle.snmp_gate.specs.declared.waiting_message.WaitingMessage.{WaitingMessage}
use Rattle.snmp_gate.specs.declared.work.Work.{Work}
use Rattle.snmp_gate.specs.declared.work.Work.TheVariants.{Ends}
use Rattle.snmp_gate.proofs.Bounded.{agent_same, bounded_worked, stays_of}
use Rattle.snmp_gate.proofs.GivingUp.{gives_up}
use Rattle.snmp_gate.proofs.gate.Gate.give_up_at.Goals as goal

pub returns-clause-happens : goal.returns-clause-happens
returns-clause-happens c since now before f later stands =
    let g = c.args.self.now in
    let new = c.end_ask.new.self in
    gives_up g new since now before c.args.place c.device_at-device.result.1 c.device_at-device.result.0 c.asked_at-asked.result c.work.result c.given_up_at-ending.result later c.requires.place c.device_at-device.ensures c.asked_at-asked.ensures c.given_up_at-ending.ensures
    c.end_ask.ensures.same.limits (ap (λ (a : AgentState). a.engine) c.end_ask.ensures.same.agent) (ap (λ (a : AgentState). a.tables) c.end_ask.ensures.same.agent) c.end_ask.ensures.same.devices
    (ap (λ (rs : WaitingRequests WaitingMessage Work). rs.next) c.end_ask.ensures.same.requests ∙ c.work.ensures.next) c.end_ask.ensures.same.sets
    (subst (λ (rs : WaitingRequests WaitingMessage Work). IsWorked (groups_of g.requests.list.items) c.args.place c.work.result (Ends c.given_up_at-ending.result) (groups_of rs.list.items)) (sym c.end_ask.ensures.same.requests) c.work.ensures.worked)
    c.end_ask.ensures.ends stands

pub returns-clause-stays : goal.returns-clause-stays
returns-clause-stays c =
    let g = c.args.self.now in
    let new = c.end_ask.new.self in
    let same = c.end_ask.ensures.same in
    stays_of g new (agent_same g.agent new.agent same.agent) same.devices same.limits
    (λ b. subst (AreBounded g.limits) (sym same.requests)
    (bounded_worked g.limits g.requests c.work.new.self c.work.ensures.most c.work.ensures.most_messages c.args.place c.work.result (Ends c.given_up_at-ending.result) c.work.ensures.worked tt (λ d. omega arith) b))
    c.end_ask.ensures.bounded

pub returns-clause-told : goal.returns-clause-told
returns-clause-told c r = (sym (c.device_at-device.ensures r).0, c.times_at-times.ensures r)
