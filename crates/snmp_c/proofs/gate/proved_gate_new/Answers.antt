use Rattle.std.proofs.Common.{rules, ◌∙◌, w32, SFits}
use Rattle.std.proofs.lemmas.Int.{to_z-of_z}
use Rattle.snmp_c.proofs.Made.{told, told_is, told_made}
use Rattle.snmp_c.proofs.gate.proved_gate_new.Goals as goal

pub returns-in-Ok-clause-made : goal.returns-in-Ok-clause-made
returns-in-Ok-clause-made c =
    let h = c.write_handle.ensures.answer in
    let fits : SFits w32 c.write_handle.result = search rules in
    (told c.write_handle.result h _, to_z-of_z w32 c.write_handle.result fits ∙ told_is c.write_handle.result h _, told_made c.args.config.now c.args.boots c.args.started c.write_handle.result h _ c.in-Ok.ensures)

pub returns-in-Ok-clause-unwritten : goal.returns-in-Ok-clause-unwritten
returns-in-Ok-clause-unwritten c =
    let fits : SFits w32 c.write_handle.result = search rules in
    λ not. c.write_handle.ensures.unwritten (λ none. not (to_z-of_z w32 c.write_handle.result fits ∙ none))
