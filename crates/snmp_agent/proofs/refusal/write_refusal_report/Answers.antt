use Rattle.std.proofs.Common.{rules, w32, SFits}
use Rattle.std.proofs.lemmas.Int.{to_z-of_z}
use Rattle.snmp_agent.proofs.refusal.write_refusal_report.Goals as goal

pub returns-clause-rows : goal.returns-clause-rows
returns-clause-rows c =
    let fits : SFits w32 c.args.pdu.now.id = search rules in
    rw (c.in-Some.ensures.value, c.name.ensures, c.as_slice.ensures.value, to_z-of_z w32 c.args.pdu.now.id fits) at c.write_counter_report.ensures.rows

pub returns-clause-memory : goal.returns-clause-memory
returns-clause-memory c is =
    let fits : SFits w32 c.args.pdu.now.id = search rules in
    rw (c.in-Some.ensures.value, c.name.ensures, c.as_slice.ensures.value, to_z-of_z w32 c.args.pdu.now.id fits) at (c.write_counter_report.ensures.memory is)
