use Rattle.std.proofs.Common.{arith, refl, sym, subst}
use Rattle.std.specs.Prelude.{IsErr, OnErr, Result, Ok, Err}
use Rattle.snmp_incoming.specs.Outcome.{Outcome}
use Rattle.snmp_agent.specs.Agent.{taker_at}
use Rattle.snmp_agent.specs.Report.{Offers}
use Rattle.snmp_agent.proofs.CountedAgents.{answer_counted, second_is, clock_runs, known}
use Rattle.snmp_agent.proofs.Reports.{not_counted, not_asked, is_offered}
use Rattle.snmp_agent.proofs.report.report.Goals as goal

pub returns-in_default-clause-report : goal.returns-in_default-clause-report
returns-in_default-clause-report c = not_counted c.args.users.now.users c.args.engine.now.id _ c.args.counters.now c.args.datagram.now c.args.why c.in_default.ensures.value

pub returns-in_default-read-clause-report : goal.returns-in_default-read-clause-report
returns-in_default-read-clause-report c =
    not_counted c.args.users.now.users c.args.engine.now.id _ c.args.counters.now c.args.datagram.now c.args.why
    (sym (c.requires.unread (subst IsErr (sym c.in_default-read.is) refl)))

pub returns-in_default-asking-clause-report : goal.returns-in_default-asking-clause-report
returns-in_default-asking-clause-report c = not_asked c.args.users.now.users c.args.engine.now.id _ c.args.counters.now c.args.datagram.now c.args.why c.in_default-asking.ensures

pub unreachable-requires : goal.unreachable-requires
unreachable-requires c =
    let taker = taker_at c.args.engine.now in
    let rows = answer_counted c.args.why c.in-Some.n (Outcome taker c.args.users.now.users c.args.now c.args.datagram.now) c.requires.rows c.in-Some.ensures.value in
    let runs = clock_runs taker c.args.users.now.users c.args.now c.args.datagram.now c.args.why c.in-Some.n c.in-Some.ensures.value rows in
    let past = c.in_default-pair.ensures in
    omega (arith, runs, past)

pub write_report-requires : goal.write_report-requires
write_report-requires c = record {
  known = λ two.
      let taker = taker_at c.args.engine.now in
      let rows = answer_counted c.args.why c.in-Some.n (Outcome taker c.args.users.now.users c.args.now c.args.datagram.now) c.requires.rows c.in-Some.ensures.value in
      known c.verified_was_read.ensures.accepted c.one_message.ensures.one c.one_cut.ensures.one c.args.engine.now.id c.args.engine.now.boots c.args.engine.now.started c.args.now c.args.why
      c.args.users.now.users c.args.datagram.now c.in-Some-asking.asking (second_is c.args.why c.in-Some.n c.in-Some.ensures.value two) rows c.in-Some-asking.ensures;
  pair = c.in-Some-pair.ensures.2;
}

pub returns-clause-report : goal.returns-clause-report
returns-clause-report c =
    is_offered c.args.users.now.users c.args.engine.now.id _ c.args.counters.now c.args.datagram.now c.args.why c.in-Some.n c.in-Some.ensures.value
    c.in-Some-asking.asking c.in-Some-asking.ensures c.in_ok-text.text.items (rw (c.in-Some-pair.ensures.1, c.from.ensures) at c.in_ok-text.ensures.text)

always : {T E P : Type 0} (r : Result T E) → P → OnErr r P
always (Ok x) p = tt
always (Err e) p = p

-- a report that finds no memory was offered
pub returns-in_err-text-clause-memory : goal.returns-in_err-text-clause-memory
returns-in_err-text-clause-memory c =
    let offer : Offers c.args.datagram.now c.args.why = record { counter = c.in-Some.n; counter_is = sym c.in-Some.ensures.value; asks = c.in-Some-asking.ensures.asks } in
    always c.from_residual.result offer
