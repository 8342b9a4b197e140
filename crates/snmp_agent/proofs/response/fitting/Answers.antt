use Rattle.std.proofs.Common.{rules, ◌≡◌, ◌≤◌, List, [], ℕ, ap, length, map, subst, sym, ◌∙◌}
use Rattle.std.specs.Prelude.{IfNone, IfSome}
use Rattle.snmp_msg.specs.Variables.{Variable}
use Rattle.usm_core.specs.Sealed.{Sending}
use Rattle.snmp_incoming.specs.Answers.{given_of}
use Rattle.snmp_outgoing.specs.Bodies.{scoped_after}
use Rattle.snmp_outgoing.specs.Fronts.{IsBeyond, IsLongestFront, room}
use Rattle.snmp_outgoing.specs.Sends.{sent_with}
use Rattle.snmp_agent.specs.Responses.{responding}
use Rattle.snmp_agent.proofs.ResponseFronts.{same_count}
use Rattle.snmp_agent.proofs.response.fitting.Goals as goal

pub returns-clause-some : goal.returns-clause-some
returns-clause-some g c s p front is_pdu =
    let vs = map g.B.Spelled.says c.args.bindings.now in
    let is = λ (ws : List Variable). ap (sent_with c.envelope-envelope.result) (c.front-front.ensures.scoped s p ws front is_pdu) ∙ c.envelope-envelope.ensures.message s p ws in
    let after = λ (ws : List Variable). sent_with c.envelope-envelope.result (scoped_after c.front-front.result ws) in
    let of = λ (ws : List Variable). responding c.args.engine.now c.args.own (given_of c.args.taken.now) s p c.args.response.now.status c.args.response.now.index ws c.args.response.now.salt in
    let some = subst (λ (n : ℕ). IfSome c.count_within.result (IsLongestFront c.args.users.now.users n after vs)) (search rules) c.count_within.ensures.some in
    same_count c.args.users.now.users c.args.response.now.limit vs after of is c.count_within.result some

pub returns-clause-none : goal.returns-clause-none
returns-clause-none g c s p front is_pdu =
    let is = ap (sent_with c.envelope-envelope.result) (c.front-front.ensures.scoped s p [] front is_pdu) ∙ c.envelope-envelope.ensures.message s p [] in
    let none = subst (λ (n : ℕ). IfNone c.count_within.result (IsBeyond c.args.users.now.users n (sent_with c.envelope-envelope.result (scoped_after c.front-front.result [])))) (search rules) c.count_within.ensures.none in
    subst (λ (m : Sending). IfNone c.count_within.result (IsBeyond c.args.users.now.users (room c.args.response.now.limit) m)) is none

pub count_within-requires-clause-engine : goal.count_within-requires-clause-engine
count_within-requires-clause-engine g c = subst (λ (engine : List ℕ). length engine ≤ 32) (sym c.envelope-envelope.ensures.engine) c.envelope-envelope.ensures.bounds.at_most
