use Rattle.std.proofs.Common.{rules, []}
use Rattle.std.proofs.lemmas.List.Elements.{at_from_Contains}
use Rattle.snmp_gate.specs.History.{accepted}
use Rattle.tests_callers.proofs.Impossible.{nothing_is_sent}
use Rattle.tests_callers.proofs.instances.no_gateway_begins_by_itself.Goals as goal

pub returns-clause-sent : goal.returns-clause-sent
returns-clause-sent c agent devices number message by answer = nothing_is_sent agent devices number message by answer

pub returns-clause-unanswered : goal.returns-clause-unanswered
returns-clause-unanswered c agent devices number message by why lawful = cc (lawful.0.in_turn.1)

pub returns-clause-asked : goal.returns-clause-asked
returns-clause-asked c agent devices number device id request datagram lawful =
    let first = lawful.0.mediated.1.is_accepted in
    let at = at_from_Contains [] (accepted number first.now first.datagram lawful.0.mediated.1.message) first.there in
    search rules

pub returns-clause-answered : goal.returns-clause-answered
returns-clause-answered c agent devices number device answer datagram lawful = cc (lawful.0.mediated.is_open)
