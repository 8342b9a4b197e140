use Rattle.snmp_message.specs.Numbers.{in_table}
use Rattle.std.proofs.Common.{rules, ◌≡◌, ℕ, List, true, refl, sym, subst, ap, arith, length, ◌∙◌}
use Rattle.std.specs.Prelude.{Option, Some, Ok, IfSome}
use Rattle.usm_users.specs.User.{User}
use Rattle.snmp_msg.specs.Pdu.{pdu_of}
use Rattle.usm_core.specs.Table.{fails}
use Rattle.snmp_incoming.specs.Answers.{given_of}
use Rattle.snmp_msg.specs.PduTypes.{is_confirmed}
use Rattle.usm_core.specs.Table.{refusal_answer}
use Rattle.snmp_agent.specs.Agent.{AgentState}
use Rattle.snmp_outgoing.specs.declared.counter.Counter.{Counter}
use Rattle.snmp_agent.specs.Counts.{count_after, one_more}
use Rattle.snmp_agent.specs.CounterReports.{refusing}
use Rattle.snmp_agent.specs.Dispatch.{counter_of, agent_counted, IsReported, SendsRefusal}
use Rattle.snmp_agent.proofs.Clocked.{sends}
use Rattle.snmp_agent.proofs.Values.{counted_value}
use Rattle.snmp_agent.proofs.UpTos.{some_other}
use Rattle.snmp_agent.proofs.agent.Agent.refuse_pdu.Goals as goal

pub returns-in_default-pair-clause-answer : goal.returns-in_default-pair-clause-answer
returns-in_default-pair-clause-answer c =
    let confirmed : is_confirmed c.args.pdu.now.tag ≡ true = sym c.is_confirmed.ensures ∙ c.if-not-is_confirmed.false in
    let started = ap (λ (a : AgentState). a.started) c.self.view_is in
    let counted = sym c.counter.ensures ∙ c.in-Some.is in
    let reported : IsReported (pdu_of c.args.pdu.now) c.args.why c.in-Some.counter = record { confirmed = confirmed; counted = counted } in
    rw c.plain.ensures.refusal
    (((c.in-Some.counter, reported, fails (λ runs. let past = c.in_default-pair.ensures in absurd (omega (arith, past, runs, started)))), refl))

pub returns-in-Ok-clause-answer : goal.returns-in-Ok-clause-answer
returns-in-Ok-clause-answer c =
    let confirmed : is_confirmed c.args.pdu.now.tag ≡ true = sym c.is_confirmed.ensures ∙ c.if-not-is_confirmed.false in
    let counted = sym c.counter.ensures ∙ c.in-Some.is in
    let reported : IsReported (pdu_of c.args.pdu.now) c.args.why c.in-Some.counter = record { confirmed = confirmed; counted = counted } in
    let agent : AgentState = record { engine = c.self.inside.engine.id; boots = c.self.inside.engine.boots; started = c.self.inside.engine.started; users = c.self.inside.users.users; tables = c.self.inside.vacm; counters = c.self.inside.counters; counts = c.self.inside.counts } in
    let eight : length c.self.inside.counts ≡ 8 = search rules in
    let value = counted_value c.self.inside.counts c.in-Some.counter eight in
    let rows = rw (c.place.ensures, c.one_more-counts.ensures, value) at c.in-Ok.ensures.rows in
    let sent = subst (λ (a : AgentState). SendsRefusal a c.args.now (given_of c.args.taken.now) (pdu_of c.args.pdu.now) c.in-Some.counter c.args.salt (Ok c.in-Ok.text.items)) c.self.view_is
    (sends agent c.args.now (λ own. refusing agent.engine own (given_of c.args.taken.now) (pdu_of c.args.pdu.now) c.in-Some.counter (count_after agent.counts c.in-Some.counter) c.args.salt) c.in-Some-pair.own c.in-Some-pair.ensures.0 c.in-Some-pair.ensures.1 (Some (Ok c.in-Ok.text.items)) rows) in
    let of = λ (users : List User) (counts : List ℕ). record agent { users = users; counts = counts } in
    let counts : c.one_more-counts.result ≡ one_more agent.counts (counter_of c.args.why) = c.one_more-counts.ensures ∙ ap (λ (o : Option Counter). one_more agent.counts o) (sym counted) in
    let is : of c.write_refusal_report.new.users.users c.one_more-counts.result ≡ agent_counted agent c.args.why = ap (λ (us : List User). of us c.one_more-counts.result) c.write_refusal_report.ensures.users ∙ ap (λ (cs : List ℕ). of agent.users cs) counts in
    ((c.in-Some.counter, reported, sent), subst (λ (a : AgentState). of c.write_refusal_report.new.users.users c.one_more-counts.result ≡ agent_counted a c.args.why) c.self.view_is is)

pub returns-in-Err-clause-answer : goal.returns-in-Err-clause-answer
returns-in-Err-clause-answer c =
    let confirmed : is_confirmed c.args.pdu.now.tag ≡ true = sym c.is_confirmed.ensures ∙ c.if-not-is_confirmed.false in
    let counted = sym c.counter.ensures ∙ c.in-Some.is in
    let reported : IsReported (pdu_of c.args.pdu.now) c.args.why c.in-Some.counter = record { confirmed = confirmed; counted = counted } in
    let agent : AgentState = record { engine = c.self.inside.engine.id; boots = c.self.inside.engine.boots; started = c.self.inside.engine.started; users = c.self.inside.users.users; tables = c.self.inside.vacm; counters = c.self.inside.counters; counts = c.self.inside.counts } in
    let eight : length c.self.inside.counts ≡ 8 = search rules in
    let value = counted_value c.self.inside.counts c.in-Some.counter eight in
    let rows = rw (c.place.ensures, c.one_more-counts.ensures, value) at c.in-Err.ensures.rows in
    let sent = subst (λ (a : AgentState). IfSome (refusal_answer c.in-Err.fault.refusal) (SendsRefusal a c.args.now (given_of c.args.taken.now) (pdu_of c.args.pdu.now) c.in-Some.counter c.args.salt)) c.self.view_is
    (sends agent c.args.now (λ own. refusing agent.engine own (given_of c.args.taken.now) (pdu_of c.args.pdu.now) c.in-Some.counter (count_after agent.counts c.in-Some.counter) c.args.salt) c.in-Some-pair.own c.in-Some-pair.ensures.0 c.in-Some-pair.ensures.1 (refusal_answer c.in-Err.fault.refusal) rows) in
    some_other _ _ (in_table c.in-Err.fault.refusal) (λ n x. ((c.in-Some.counter, reported, x), search rules)) sent
