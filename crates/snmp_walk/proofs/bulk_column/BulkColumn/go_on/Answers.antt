use Rattle.std.proofs.Common.{◌∙◌, sym, subst, map}
use Rattle.snmp_responder.specs.Code.{seen_by}
use Rattle.snmp_walk.specs.Bindings.{given_says}
use Rattle.snmp_walk.specs.Steps.{GoesOn, GoesOnFrom}
use Rattle.snmp_walk.specs.declared.operation.ReadOperation.TheVariants.{GetNext}
use Rattle.snmp_walk.specs.declared.column.Progress.{Progress}
use Rattle.snmp_walk.proofs.Bulk.{bulk_goes_on}
use Rattle.snmp_walk.proofs.bulk_column.BulkColumn.go_on.Goals as goal

pub returns-clause-stands : goal.returns-clause-stands
returns-clause-stands c told stands =
    let seen = seen_by c.args.viewer.now in
    let self = c.args.self.now in
    let from = c.in-Wanting.from in
    let became = c.asked_at.ensures from (c.replace-wanting.ensures.value ∙ c.in-Wanting.is) in
    bulk_goes_on seen told self.first (map given_says self.got.items) self.progress c.asked_at.result
    (subst (λ (old : Progress). GoesOn seen GetNext old c.asked_at.result) (sym c.in-Wanting.is)
    (subst (GoesOnFrom seen GetNext from) (sym became) c.place_of-place.ensures)) stands
