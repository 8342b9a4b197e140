use Rattle.std.proofs.Common.{◌≡◌, List, [], ℕ, map, subst}
use Rattle.std.specs.Prelude.{IfNone, IfSome}
use Rattle.engine_clock.specs.Pairs.{BootsAndTime}
use Rattle.snmp_msg.specs.Variables.{Variable}
use Rattle.snmp_incoming.specs.Answers.{given_of}
use Rattle.snmp_incoming.specs.Outcome.{own_pair}
use Rattle.snmp_outgoing.specs.Fronts.{IsBeyond, IsLongestFront, room}
use Rattle.snmp_agent.specs.Agent.{AgentState}
use Rattle.snmp_agent.specs.Responses.{responding}
use Rattle.snmp_agent.proofs.agent.Agent.fits.Goals as goal

pub returns-clause-some : goal.returns-clause-some
returns-clause-some g c s p front is_pdu =
    let engine = c.self.inside.engine.id in
    let users = c.self.inside.users.users in
    let vs = map g.B.Spelled.says c.args.bindings.now in
    let of = λ (own : BootsAndTime) (ws : List Variable). responding engine own (given_of c.args.taken.now) s p c.args.response.now.status c.args.response.now.index ws c.args.response.now.salt in
    subst (λ (a : AgentState). IfSome c.fitting.result (IsLongestFront a.users (room c.args.response.now.limit) (λ ws. responding a.engine (own_pair a.boots a.started c.args.now) (given_of c.args.taken.now) s p c.args.response.now.status c.args.response.now.index ws c.args.response.now.salt) vs)) c.self.view_is
    (subst (λ (own : BootsAndTime). IfSome c.fitting.result (IsLongestFront users (room c.args.response.now.limit) (of own) vs)) c.in_ok-own.ensures.1 (c.fitting.ensures.some s p front is_pdu))

pub returns-clause-none : goal.returns-clause-none
returns-clause-none g c s p front is_pdu runs =
    let engine = c.self.inside.engine.id in
    let users = c.self.inside.users.users in
    let of = λ (own : BootsAndTime). responding engine own (given_of c.args.taken.now) s p c.args.response.now.status c.args.response.now.index [] c.args.response.now.salt in
    subst (λ (a : AgentState). IfNone c.fitting.result (IsBeyond a.users (room c.args.response.now.limit) (responding a.engine (own_pair a.boots a.started c.args.now) (given_of c.args.taken.now) s p c.args.response.now.status c.args.response.now.index [] c.args.response.now.salt))) c.self.view_is
    (subst (λ (own : BootsAndTime). IfNone c.fitting.result (IsBeyond users (room c.args.response.now.limit) (of own))) c.in_ok-own.ensures.1 (c.fitting.ensures.none s p front is_pdu))
