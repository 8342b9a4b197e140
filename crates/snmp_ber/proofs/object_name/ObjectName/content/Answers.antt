use Rattle.std.proofs.Common.{length, ap, ◌∙◌, arith}
use Rattle.snmp_ber.specs.ObjectName.{arcs_in}
use Rattle.snmp_ber.specs.Oid.{identifier}
use Rattle.snmp_ber.proofs.Identifiers.{identifier-only, identifier-short}
use Rattle.snmp_ber.proofs.ObjectNames.{arcs_from}
use Rattle.snmp_ber.proofs.object_name.ObjectName.content.Goals as goal

pub returns-clause-spelled : goal.returns-clause-spelled
returns-clause-spelled c = identifier-only (arcs_in c.self.inside.content.now) c.self.inside.content.now c.self.invariant ∙ ap identifier c.self.view_is

pub returns-clause-arcs : goal.returns-clause-arcs
returns-clause-arcs c = rw (← c.self.view_is) (arcs_from (arcs_in c.self.inside.content.now) c.self.inside.content.now c.self.invariant)

pub returns-clause-most : goal.returns-clause-most
returns-clause-most c =
    let only = identifier-only (arcs_in c.self.inside.content.now) c.self.inside.content.now c.self.invariant in
    omega (arith, ap length only, identifier-short (arcs_in c.self.inside.content.now) c.self.invariant.most)
