use Rattle.snmp_listener.specs.Listening.{Kind, TakesAs, inform, state_of, trap}
use Rattle.snmp_listener.specs.declared.listener.ListenerTaken.{ListenerTaken}
use Rattle.snmp_listener.proofs.Somes.{if_ok}
use Rattle.snmp_listener.proofs.listener.Listener.take_as.Goals as goal

pub returns-then-is_for_manager-clause-takes : goal.returns-then-is_for_manager-clause-takes
returns-then-is_for_manager-clause-takes c =
    let a = c.args in
    let old = state_of a.self.now in
    let new = state_of c.take_trap.new.self in
    if_ok _ (λ (what : ListenerTaken). (kind : Kind) × TakesAs kind old a.now a.from.now a.datagram.now a.salt what new) (λ (what : ListenerTaken) takes. (trap, takes a.salt)) c.take_trap.result c.take_trap.ensures.takes

pub returns-clause-takes : goal.returns-clause-takes
returns-clause-takes c =
    let a = c.args in
    let old = state_of a.self.now in
    let new = state_of c.take_inform.new.self in
    if_ok _ (λ (what : ListenerTaken). (kind : Kind) × TakesAs kind old a.now a.from.now a.datagram.now a.salt what new) (λ (what : ListenerTaken) takes. (inform, takes)) c.take_inform.result c.take_inform.ensures.takes
