use Rattle.std.proofs.Common.{sym, subst, map, List, ℕ}
use Rattle.snmp_walk.specs.Bindings.{given_says}
use Rattle.snmp_walk.specs.declared.given.GivenVariable.{GivenVariable}
use Rattle.snmp_responder.specs.Code.{seen_by}
use Rattle.snmp_walk.specs.BulkColumn.{StandsInBulk}
use Rattle.snmp_walk.specs.declared.column.Progress.TheVariants.{Wanting}
use Rattle.snmp_walk.proofs.Bulk.{bulk_begins}
use Rattle.snmp_walk.proofs.bulk_column.BulkColumn.new.Goals as goal

pub returns-clause-stands : goal.returns-clause-stands
returns-clause-stands c viewer told =
    let first = c.in_ok-first.first in
    subst (λ (name : List ℕ). StandsInBulk (seen_by viewer) told first (map given_says c.new.result.items) (Wanting name)) (sym c.in_ok-from.ensures)
    (subst (λ (gs : List GivenVariable). StandsInBulk (seen_by viewer) told first (map given_says gs) (Wanting first)) (sym c.new.ensures.items) (bulk_begins (seen_by viewer) told first))
