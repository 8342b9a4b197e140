use Rattle.std.proofs.Common.{arith}
use Rattle.snmp_ber.proofs.ObjectNames.{found, found_exactly}
use Rattle.snmp_ber.proofs.object_name.ObjectName.of_content.Goals as goal

pub invariant_of-result : goal.invariant_of-result
invariant_of-result c = found c.args.content.now (λ i. omega (arith, c.type_inv.content i)) c.requires

pub returns-clause-identifier : goal.returns-clause-identifier
returns-clause-identifier c = found c.args.content.now (λ i. omega (arith, c.type_inv.content i)) c.requires

pub returns-clause-exact : goal.returns-clause-exact
returns-clause-exact c = found_exactly c.args.content.now (found c.args.content.now (λ i. omega (arith, c.type_inv.content i)) c.requires)
