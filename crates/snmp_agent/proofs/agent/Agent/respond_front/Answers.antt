use Rattle.std.proofs.Common.{List, [], subst, ap, arith}
use Rattle.std.specs.Prelude.{map, take, IfOk, IfSome}
use Rattle.snmp_msg.specs.Variables.{Variable}
use Rattle.usm_core.specs.Table.{fails}
use Rattle.snmp_incoming.specs.Answers.{given_of}
use Rattle.snmp_outgoing.specs.Fronts.{front_answer}
use Rattle.snmp_agent.specs.Agent.{AgentState}
use Rattle.snmp_incoming.specs.Outcome.{own_pair}
use Rattle.snmp_outgoing.specs.Speaks.{SpeechFits}
use Rattle.snmp_agent.specs.Responses.{response, responding}
use Rattle.snmp_agent.specs.Sent.{SendsFront, CanBeSent, IsAcceptedByManagers}
use Rattle.engine_clock.specs.Pairs.{BootsAndTime}
use Rattle.snmp_agent.proofs.Clocked.{can_be_sent}
use Rattle.snmp_agent.proofs.Fronts.{sends_front, accepted_front}
use Rattle.snmp_agent.proofs.agent.Agent.respond_front.Goals as goal

pub returns-in_default-clause-answer : goal.returns-in_default-clause-answer
returns-in_default-clause-answer g c s p front is_pdu =
    let started = ap (λ (a : AgentState). a.started) c.self.view_is in
    rw c.plain.ensures.refusal
    (fails (λ runs. let past = c.in_default.ensures in absurd (omega (arith, past, runs, started))))

pub returns-clause-answer : goal.returns-clause-answer
returns-clause-answer g c s p front is_pdu =
    let vs = map g.B.Spelled.says c.args.bindings.now in
    let rows = (c.response_front.ensures.rows s p front is_pdu) in
    let agent : AgentState = record { engine = c.self.inside.engine.id; boots = c.self.inside.engine.boots; started = c.self.inside.engine.started; users = c.self.inside.users.users; tables = c.self.inside.vacm; counters = c.self.inside.counters; counts = c.self.inside.counts } in
    subst (λ (a : AgentState). IfSome (front_answer c.response_front.result) (SendsFront a c.args.now c.args.response.now.limit (λ own ws. responding a.engine own (given_of c.args.taken.now) s p c.args.response.now.status c.args.response.now.index ws c.args.response.now.salt) vs)) c.self.view_is
    (sends_front agent c.args.now c.args.response.now.limit (λ own ws. responding c.self.inside.engine.id own (given_of c.args.taken.now) s p c.args.response.now.status c.args.response.now.index ws c.args.response.now.salt) vs c.in-Some.own c.in-Some.ensures.0 c.in-Some.ensures.1 (front_answer c.response_front.result) rows)

pub returns-clause-memory : goal.returns-clause-memory
returns-clause-memory g c s p front is_pdu is =
    let sealable = (c.response_front.ensures.memory s p front is_pdu is) in
    subst (λ (a : AgentState). CanBeSent a c.args.now (λ own. responding a.engine own (given_of c.args.taken.now) s p c.args.response.now.status c.args.response.now.index [] c.args.response.now.salt)) c.self.view_is
    (can_be_sent _ c.args.now (λ own. responding c.self.inside.engine.id own (given_of c.args.taken.now) s p c.args.response.now.status c.args.response.now.index [] c.args.response.now.salt) c.in-Some.own c.in-Some.ensures.0 c.in-Some.ensures.1 sealable)

pub returns-clause-accepted : goal.returns-clause-accepted
returns-clause-accepted g c s p front is_pdu =
    let engine = c.self.inside.engine.id in
    let users = c.self.inside.users.users in
    let vs = map g.B.Spelled.says c.args.bindings.now in
    let of = λ (own : BootsAndTime) (ws : List Variable). response engine own (given_of c.args.taken.now) s p c.args.response.now.status c.args.response.now.index ws c.args.response.now.salt in
    let rows = (c.response_front.ensures.rows s p front is_pdu) in
    let fits : IfOk c.response_front.result (λ f. SpeechFits (of c.in-Some.own (take f.count vs))) = (c.response_front.ensures.fits s p front is_pdu) in
    let told = accepted_front c.response_front.result users c.args.response.now.limit (of c.in-Some.own) vs
    (λ ws others held now text fits same seals. c.response_is_accepted.ensures users others held now engine c.in-Some.own (given_of c.args.taken.now) s p c.args.response.now.status c.args.response.now.index ws c.args.response.now.salt text fits same seals) fits rows in
    subst (λ (a : AgentState). IfOk c.response_front.result (λ f. IsAcceptedByManagers a.users (response a.engine (own_pair a.boots a.started c.args.now) (given_of c.args.taken.now) s p c.args.response.now.status c.args.response.now.index (take f.count vs) c.args.response.now.salt) f.text.items)) c.self.view_is
    (subst (λ (q : BootsAndTime). IfOk c.response_front.result (λ f. IsAcceptedByManagers users (of q (take f.count vs)) f.text.items)) c.in-Some.ensures.1 told)
