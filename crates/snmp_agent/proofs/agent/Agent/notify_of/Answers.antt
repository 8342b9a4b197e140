use Rattle.std.proofs.Common.{subst, ap, arith}
use Rattle.std.specs.Prelude.{map, IfOk, IfSome}
use Rattle.usm_core.specs.Table.{fails}
use Rattle.usm_core.specs.Answers.{seal_answer}
use Rattle.snmp_agent.specs.Agent.{AgentState}
use Rattle.snmp_incoming.specs.Outcome.{own_pair}
use Rattle.engine_clock.specs.Pairs.{BootsAndTime}
use Rattle.snmp_agent.specs.Sent.{notification, notifying, Sends, CanBeSent, IsAcceptedByManagers}
use Rattle.snmp_agent.proofs.Accepted.{AreAccepted, accepted}
use Rattle.snmp_agent.proofs.Clocked.{sends, can_be_sent}
use Rattle.snmp_agent.proofs.agent.Agent.notify_of.Goals as goal

pub returns-in_default-clause-answer : goal.returns-in_default-clause-answer
returns-in_default-clause-answer g c =
    let started = ap (λ (a : AgentState). a.started) c.self.view_is in
    rw c.plain.ensures.refusal
    (fails (λ runs. let past = c.in_default.ensures in absurd (omega (arith, past, runs, started))))

pub returns-clause-answer : goal.returns-clause-answer
returns-clause-answer g c =
    let vs = map g.B.Spelled.says c.args.bindings.now in
    let agent : AgentState = record { engine = c.self.inside.engine.id; boots = c.self.inside.engine.boots; started = c.self.inside.engine.started; users = c.self.inside.users.users; tables = c.self.inside.vacm; counters = c.self.inside.counters; counts = c.self.inside.counts } in
    subst (λ (a : AgentState). IfSome (seal_answer c.write_notification.result) (Sends a c.args.now (λ own. notifying a.engine own c.args.id c.args.user.now c.args.level c.args.front.now vs c.args.salt))) c.self.view_is
    (sends agent c.args.now (λ own. notifying c.self.inside.engine.id own c.args.id c.args.user.now c.args.level c.args.front.now vs c.args.salt) c.in-Some.own c.in-Some.ensures.0 c.in-Some.ensures.1 (seal_answer c.write_notification.result) c.write_notification.ensures.rows)

pub returns-clause-memory : goal.returns-clause-memory
returns-clause-memory g c is =
    let vs = map g.B.Spelled.says c.args.bindings.now in
    subst (λ (a : AgentState). CanBeSent a c.args.now (λ own. notifying a.engine own c.args.id c.args.user.now c.args.level c.args.front.now vs c.args.salt)) c.self.view_is
    (can_be_sent _ c.args.now (λ own. notifying c.self.inside.engine.id own c.args.id c.args.user.now c.args.level c.args.front.now vs c.args.salt) c.in-Some.own c.in-Some.ensures.0 c.in-Some.ensures.1 (c.write_notification.ensures.memory is))

pub returns-clause-accepted : goal.returns-clause-accepted
returns-clause-accepted g c =
    let vs = map g.B.Spelled.says c.args.bindings.now in
    let engine = c.self.inside.engine.id in
    let users = c.self.inside.users.users in
    let of = λ (own : BootsAndTime). notification engine own c.args.id c.args.user.now c.args.level c.args.front.now vs c.args.salt in
    let law : AreAccepted users (of c.in-Some.own) = λ others held now text fits same seals. c.notification_is_accepted.ensures users others held now engine c.in-Some.own c.args.id c.args.user.now c.args.level c.args.front.now vs c.args.salt text fits same seals in
    let told = accepted c.write_notification.result users (of c.in-Some.own) law c.write_notification.ensures.fits c.write_notification.ensures.rows in
    subst (λ (a : AgentState). IfOk c.write_notification.result (λ text. IsAcceptedByManagers a.users (notification a.engine (own_pair a.boots a.started c.args.now) c.args.id c.args.user.now c.args.level c.args.front.now vs c.args.salt) text.items)) c.self.view_is
    (subst (λ (q : BootsAndTime). IfOk c.write_notification.result (λ text. IsAcceptedByManagers users (of q) text.items)) c.in-Some.ensures.1 told)
