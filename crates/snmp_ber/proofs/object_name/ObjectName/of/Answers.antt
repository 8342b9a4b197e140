use Rattle.std.proofs.Common.{rules, ◌≡◌, true, arith}
use Rattle.std.specs.Prelude.{is_some}
use Rattle.snmp_ber.specs.Oid.{identifier_in}
use Rattle.snmp_ber.proofs.ObjectNames.{found, found_exactly, none_found}
use Rattle.snmp_ber.proofs.object_name.ObjectName.of.Goals as goal

pub invariant_of-result : goal.invariant_of-result
invariant_of-result c =
    let some : is_some (identifier_in c.args.content.now) ≡ true = search rules in
    found c.args.content.now (λ i. omega (arith, c.type_inv.content i)) some

pub returns-clause-identifier : goal.returns-clause-identifier
returns-clause-identifier c = invariant_of-result c

pub returns-clause-exact : goal.returns-clause-exact
returns-clause-exact c = found_exactly c.args.content.now (invariant_of-result c)

pub returns-then-not-is_oid-clause-exact : goal.returns-then-not-is_oid-clause-exact
returns-then-not-is_oid-clause-exact c = none_found c.args.content.now (search rules)
