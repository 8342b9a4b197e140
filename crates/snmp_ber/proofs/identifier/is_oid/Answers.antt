use Rattle.std.proofs.Common.{arith, ◌∙◌, false, ltb, length, sym}
use Rattle.std.specs.Prelude.{option_and_then}
use Rattle.snmp_ber.specs.Oid.{identifier_in, at_most, subidentifiers_in}
use Rattle.snmp_ber.proofs.Oids.{counted_is, counted_not, some_exactly, single_is}
use Rattle.snmp_ber.proofs.identifier.is_oid.Goals as goal

pub returns-in-Some-clause-exact : goal.returns-in-Some-clause-exact
unfolding identifier_in
returns-in-Some-clause-exact c = counted_is c.in-Some.count (option_and_then (at_most 127) (subidentifiers_in 0 c.args.content.now)) c.in-Some.ensures

pub returns-in-Some-clause-identifier : goal.returns-in-Some-clause-identifier
returns-in-Some-clause-identifier c = some_exactly c.args.content.now (ltb 0 c.in-Some.count) (λ i. omega (arith, c.type_inv.content i)) (returns-in-Some-clause-exact c)

pub returns-in-None-clause-exact : goal.returns-in-None-clause-exact
unfolding identifier_in
returns-in-None-clause-exact c = counted_not (option_and_then (at_most 127) (subidentifiers_in 0 c.args.content.now)) c.in-None.ensures

pub returns-in-None-clause-identifier : goal.returns-in-None-clause-identifier
returns-in-None-clause-identifier c = some_exactly c.args.content.now false (λ i. omega (arith, c.type_inv.content i)) (returns-in-None-clause-exact c)

pub returns-then-are_single-clause-exact : goal.returns-then-are_single-clause-exact
unfolding identifier_in
returns-then-are_single-clause-exact c = counted_is (length c.args.content.now) (option_and_then (at_most 127) (subidentifiers_in 0 c.args.content.now)) (single_is c.args.content.now (sym c.are_single.ensures ∙ c.if-are_single.true) c.if-content-le127.true)

pub returns-then-are_single-clause-identifier : goal.returns-then-are_single-clause-identifier
returns-then-are_single-clause-identifier c = some_exactly c.args.content.now (ltb 0 (length c.args.content.now)) (λ i. omega (arith, c.type_inv.content i)) (returns-then-are_single-clause-exact c)
