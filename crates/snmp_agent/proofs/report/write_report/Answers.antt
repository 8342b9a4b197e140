use Rattle.std.proofs.Common.{rules, ◌≡◌, subst, arith, Bool, w32, SFits}
use Rattle.std.specs.Prelude.{◌≢◌, None}
use Rattle.std.proofs.lemmas.Int.{to_z-of_z}
use Rattle.snmp_message.specs.declared.refusal.Refusal.TheVariants.{TooLarge}
use Rattle.snmp_message.specs.Numbers.{in_table, MemoryIs}
use Rattle.snmp_agent.specs.Report.{reporting_of}
use Rattle.snmp_agent.proofs.Sizes.{scoped_most}
use Rattle.snmp_agent.proofs.Reports.{seals_text, refusal_is, report_sealable}
use Rattle.snmp_agent.proofs.report.write_report.Goals as goal

pub returns-in-Ok-clause-text : goal.returns-in-Ok-clause-text
returns-in-Ok-clause-text c =
    let fits : SFits w32 c.args.asking.now.request_id = search rules in
    let rows = rw (c.report_level.ensures, c.in-Some.ensures.value, c.counter_name.ensures, c.as_slice.ensures.value, to_z-of_z w32 c.args.asking.now.request_id fits) at c.in-Ok.ensures.rows in
    seals_text c.args.users.now.users (reporting_of c.args.engine.now c.args.own c.args.n c.args.asking.now c.args.value) c.in-Ok.text.items rows

pub unreachable-requires-then-not-is_memory : goal.unreachable-requires-then-not-is_memory
unreachable-requires-then-not-is_memory c =
    let fits : SFits w32 c.args.asking.now.request_id = search rules in
    let m = reporting_of c.args.engine.now c.args.own c.args.n c.args.asking.now c.args.value in
    let rows = rw (c.report_level.ensures, c.in-Some.ensures.value, c.counter_name.ensures, c.as_slice.ensures.value, to_z-of_z w32 c.args.asking.now.request_id fits) at c.in-Err.ensures.rows in
    let sealable = report_sealable c.args.users.now.users c.args.engine.now c.args.own c.args.n c.args.asking.now c.args.value c.requires.known in
    let memory : in_table c.in-Err.fault.refusal ≢ None = subst (λ (b : Bool). MemoryIs c.in-Err.fault.refusal b) c.if-not-is_memory.true c.is_memory.ensures in
    let large : c.in-Err.fault.refusal ≡ TooLarge = refusal_is c.args.users.now.users m c.in-Err.fault.refusal sealable rows memory in
    let long = rw (c.in-Some.ensures.value, c.counter_name.ensures, c.as_slice.ensures.value, to_z-of_z w32 c.args.asking.now.request_id fits) at (c.in-Err.ensures.short large) in
    let engine = c.as_slice.ensures.bounds.at_most in
    let most = scoped_most c.args.engine.now c.args.asking.now.request_id c.args.n c.args.value engine in
    omega (arith, long, most, engine, c.args.asking.now.user_fits)

pub returns-in-Ok-clause-short : goal.returns-in-Ok-clause-short
returns-in-Ok-clause-short c =
    let fits : SFits w32 c.args.asking.now.request_id = search rules in
    let rows = rw (c.report_level.ensures, c.in-Some.ensures.value, c.counter_name.ensures, c.as_slice.ensures.value, to_z-of_z w32 c.args.asking.now.request_id fits) at c.in-Ok.ensures.rows in
    let sealed = seals_text c.args.users.now.users (reporting_of c.args.engine.now c.args.own c.args.n c.args.asking.now c.args.value) c.in-Ok.text.items rows in
    c.report_is_short.ensures c.args.users.now.users c.args.engine.now c.args.own c.args.asking.now.id c.args.asking.now.user.now c.args.asking.now.request_id c.args.n c.args.value c.in-Ok.text.items
    c.as_slice.ensures.bounds.at_most c.requires.pair c.args.asking.now.id_fits c.args.asking.now.user_fits sealed
