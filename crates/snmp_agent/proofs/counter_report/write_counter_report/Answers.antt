use Rattle.std.proofs.Common.{rules, w32, w64, SFits}
use Rattle.std.proofs.lemmas.Int.{to_z-of_z}
use Rattle.snmp_agent.proofs.counter_report.write_counter_report.Goals as goal

pub returns-clause-rows : goal.returns-clause-rows
returns-clause-rows c =
    let fits : SFits w32 c.args.request_id = search rules in
    let fits_value : SFits w64 c.from.result = search rules in
    rw (c.tag.ensures.value, c.as_slice-2.ensures.value, c.as_slice.ensures.value, c.int_content-content.ensures.octets, to_z-of_z w32 c.args.request_id fits, to_z-of_z w64 c.from.result fits_value, c.from.ensures) at c.write_body.ensures.rows

pub returns-clause-memory : goal.returns-clause-memory
returns-clause-memory c is =
    let fits : SFits w32 c.args.request_id = search rules in
    let fits_value : SFits w64 c.from.result = search rules in
    rw (c.tag.ensures.value, c.as_slice-2.ensures.value, c.as_slice.ensures.value, c.int_content-content.ensures.octets, to_z-of_z w32 c.args.request_id fits, to_z-of_z w64 c.from.result fits_value, c.from.ensures) at (c.write_body.ensures.memory is)

pub returns-clause-short : goal.returns-clause-short
returns-clause-short c is =
    let fits : SFits w32 c.args.request_id = search rules in
    let fits_value : SFits w64 c.from.result = search rules in
    rw (c.tag.ensures.value, c.as_slice-2.ensures.value, c.as_slice.ensures.value, c.int_content-content.ensures.octets, to_z-of_z w32 c.args.request_id fits, to_z-of_z w64 c.from.result fits_value, c.from.ensures) at (c.write_body.ensures.short is)
