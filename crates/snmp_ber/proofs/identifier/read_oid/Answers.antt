use Rattle.std.proofs.Common.{ℕ, List, Some, arith, ap, sym, ◌∙◌}
use Rattle.std.specs.Prelude.{option_map}
use Rattle.snmp_ber.proofs.Oids.{read_exactly}
use Rattle.snmp_ber.proofs.identifier.read_oid.Goals as goal

pub returns-in_err-read_arcs-clause-value : goal.returns-in_err-read_arcs-clause-value
returns-in_err-read_arcs-clause-value c = read_exactly c.args.content.now c.from_residual.result (λ i. omega (arith, c.type_inv.content i)) (c.from_residual.ensures ∙ sym (ap (option_map (λ x. c.read_arcs.new.arcs.items)) c.in_err-read_arcs.was) ∙ c.read_arcs.ensures.value)

pub returns-clause-value : goal.returns-clause-value
returns-clause-value c = read_exactly c.args.content.now (Some c.from_arcs.result) (λ i. omega (arith, c.type_inv.content i)) (ap (λ (arcs : List ℕ). Some arcs) c.from_arcs.ensures ∙ sym (ap (option_map (λ x. c.read_arcs.new.arcs.items)) c.in_ok-read_arcs.was) ∙ c.read_arcs.ensures.value)
