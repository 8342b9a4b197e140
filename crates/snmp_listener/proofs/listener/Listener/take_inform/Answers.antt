use Rattle.std.proofs.Common.{ap, subst}
use Rattle.std.specs.Prelude.{IfOk}
use Rattle.snmp_agent.specs.Agent.{AgentState}
use Rattle.snmp_listener.specs.Listening.{ListenerState, TakesAs, inform, state_of}
use Rattle.snmp_listener.specs.declared.listener.ListenerTaken.{ListenerTaken}
use Rattle.snmp_listener.proofs.listener.Listener.take_inform.Goals as goal

pub returns-clause-takes : goal.returns-clause-takes
returns-clause-takes c =
    let a = c.args in
    subst (λ (l : ListenerState). IfOk c.tell_inform.result (λ (what : ListenerTaken). TakesAs inform l a.now a.from.now a.datagram.now a.salt what (state_of c.tell_inform.new.self)))
    (ap (λ (s : AgentState). record (state_of a.self.now) { agent = s }) c.in-Ok.ensures.takes.1) c.tell_inform.ensures.takes
