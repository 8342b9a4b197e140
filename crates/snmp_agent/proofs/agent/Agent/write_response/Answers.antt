use Rattle.std.proofs.Common.{subst, ap, arith}
use Rattle.std.specs.Prelude.{map, IfOk, IfSome}
use Rattle.usm_core.specs.Table.{fails}
use Rattle.snmp_incoming.specs.Answers.{given_of}
use Rattle.usm_core.specs.Answers.{seal_answer}
use Rattle.snmp_agent.specs.Agent.{AgentState}
use Rattle.snmp_incoming.specs.Outcome.{own_pair}
use Rattle.snmp_message.specs.declared.refusal.Refusal.TheVariants.{ClockExhausted}
use Rattle.snmp_outgoing.specs.Fronts.{IsBeyond, room}
use Rattle.snmp_outgoing.specs.UpTo.{UpTo, refuses}
use Rattle.snmp_outgoing.specs.Speaks.{SpeechFits}
use Rattle.snmp_agent.specs.Responses.{response, responding}
use Rattle.snmp_agent.specs.Sent.{Sends, CanBeSent, IsAcceptedByManagers}
use Rattle.engine_clock.specs.Pairs.{BootsAndTime}
use Rattle.snmp_agent.proofs.Accepted.{AreAccepted, accepted_text}
use Rattle.snmp_agent.proofs.Clocked.{sends_up_to, can_be_sent}
use Rattle.snmp_agent.proofs.agent.Agent.write_response.Goals as goal

pub returns-in_default-clause-answer : goal.returns-in_default-clause-answer
returns-in_default-clause-answer g c s p front is_pdu =
    let started = ap (λ (a : AgentState). a.started) c.self.view_is in
    rw c.plain.ensures.refusal
    (refuses ClockExhausted (fails (λ runs. let past = c.in_default.ensures in absurd (omega (arith, past, runs, started)))))

pub returns-clause-answer : goal.returns-clause-answer
returns-clause-answer g c s p front is_pdu =
    let rows = (c.response_within.ensures.rows s p front is_pdu) in
    let agent : AgentState = record { engine = c.self.inside.engine.id; boots = c.self.inside.engine.boots; started = c.self.inside.engine.started; users = c.self.inside.users.users; tables = c.self.inside.vacm; counters = c.self.inside.counters; counts = c.self.inside.counts } in
    subst (λ (a : AgentState). IfSome (seal_answer c.response_within.result) (UpTo c.args.response.now.limit (Sends a c.args.now (λ own. responding a.engine own (given_of c.args.taken.now) s p c.args.response.now.status c.args.response.now.index (map g.B.Spelled.says c.args.bindings.now) c.args.response.now.salt)))) c.self.view_is
    (sends_up_to agent c.args.now (λ own. responding c.self.inside.engine.id own (given_of c.args.taken.now) s p c.args.response.now.status c.args.response.now.index (map g.B.Spelled.says c.args.bindings.now) c.args.response.now.salt) c.in-Some.own c.in-Some.ensures.0 c.in-Some.ensures.1 c.args.response.now.limit (seal_answer c.response_within.result) rows)

pub returns-clause-memory : goal.returns-clause-memory
returns-clause-memory g c s p front is_pdu is =
    let sealable = (c.response_within.ensures.memory s p front is_pdu is) in
    subst (λ (a : AgentState). CanBeSent a c.args.now (λ own. responding a.engine own (given_of c.args.taken.now) s p c.args.response.now.status c.args.response.now.index (map g.B.Spelled.says c.args.bindings.now) c.args.response.now.salt)) c.self.view_is
    (can_be_sent _ c.args.now (λ own. responding c.self.inside.engine.id own (given_of c.args.taken.now) s p c.args.response.now.status c.args.response.now.index (map g.B.Spelled.says c.args.bindings.now) c.args.response.now.salt) c.in-Some.own c.in-Some.ensures.0 c.in-Some.ensures.1 sealable)

pub returns-clause-accepted : goal.returns-clause-accepted
returns-clause-accepted g c s p front is_pdu =
    let engine = c.self.inside.engine.id in
    let users = c.self.inside.users.users in
    let vs = map g.B.Spelled.says c.args.bindings.now in
    let of = λ (own : BootsAndTime). response engine own (given_of c.args.taken.now) s p c.args.response.now.status c.args.response.now.index vs c.args.response.now.salt in
    let rows = (c.response_within.ensures.sealed s p front is_pdu) in
    let fits : IfOk c.response_within.result (λ _. SpeechFits (of c.in-Some.own)) = (c.response_within.ensures.fits s p front is_pdu) in
    let law : AreAccepted users (of c.in-Some.own) = λ others held now text fits same seals. c.response_is_accepted.ensures users others held now engine c.in-Some.own (given_of c.args.taken.now) s p c.args.response.now.status c.args.response.now.index vs c.args.response.now.salt text fits same seals in
    let told = accepted_text c.response_within.result users (of c.in-Some.own) law fits rows in
    subst (λ (a : AgentState). IfOk c.response_within.result (λ text. IsAcceptedByManagers a.users (response a.engine (own_pair a.boots a.started c.args.now) (given_of c.args.taken.now) s p c.args.response.now.status c.args.response.now.index vs c.args.response.now.salt) text.items)) c.self.view_is
    (subst (λ (q : BootsAndTime). IfOk c.response_within.result (λ text. IsAcceptedByManagers users (of q) text.items)) c.in-Some.ensures.1 told)

pub returns-clause-counted : goal.returns-clause-counted
returns-clause-counted g c s p front is_pdu is =
    let engine = c.self.inside.engine.id in
    let users = c.self.inside.users.users in
    let vs = map g.B.Spelled.says c.args.bindings.now in
    let never = (c.response_within.ensures.counted s p front is_pdu is) in
    subst (λ (a : AgentState). IsBeyond a.users (room c.args.response.now.limit) (responding a.engine (own_pair a.boots a.started c.args.now) (given_of c.args.taken.now) s p c.args.response.now.status c.args.response.now.index vs c.args.response.now.salt) → ⊥) c.self.view_is
    (subst (λ (q : BootsAndTime). IsBeyond users (room c.args.response.now.limit) (responding engine q (given_of c.args.taken.now) s p c.args.response.now.status c.args.response.now.index vs c.args.response.now.salt) → ⊥) c.in-Some.ensures.1 never)
