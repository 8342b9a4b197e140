use Rattle.std.proofs.Common.{◌≡◌, subst, List, map}
use Rattle.snmp_walk.specs.Bindings.{given_says}
use Rattle.snmp_walk.specs.BulkColumn.{last_name}
use Rattle.snmp_walk.specs.declared.given.GivenVariable.{GivenVariable}
use Rattle.snmp_walk.proofs.Bulk.{last_given}
use Rattle.snmp_walk.proofs.bulk_column.BulkColumn.last_shown.Goals as goal

pub returns-in-Some : goal.returns-in-Some
returns-in-Some c =
    let at = c.in-Some.ensures.item.3 in
    subst (λ (gs : List GivenVariable). c.in-Some.given.now.name ≡ last_name c.args.self.now.first (map given_says gs)) c.deref.ensures.value
    (last_given c.args.self.now.first c.deref.result.now c.in-Some.given.now at.0 at.1)
