use Rattle.std.proofs.Common.{◌∙◌, subst, sym}
use Rattle.snmp_responder.specs.Code.{seen_by}
use Rattle.snmp_walk.specs.Steps.{GoesOn, GoesOnFrom}
use Rattle.snmp_walk.specs.declared.column.Progress.{Progress}
use Rattle.snmp_walk.proofs.Steps.{goes_on_stands}
use Rattle.snmp_walk.proofs.column.Column.go_on.Goals as goal

pub returns-clause-stands : goal.returns-clause-stands
returns-clause-stands c told stands =
    let seen = seen_by c.args.viewer.now in
    let self = c.args.self.now in
    let from = c.in-Wanting.from in
    let became = c.asked_at.ensures from (c.replace-wanting.ensures.value ∙ c.in-Wanting.is) in
    goes_on_stands seen told self.operation self.first self.progress c.asked_at.result
    (subst (λ (old : Progress). GoesOn seen self.operation old c.asked_at.result) (sym c.in-Wanting.is)
    (subst (GoesOnFrom seen self.operation from) (sym became) c.place_of-place.ensures)) stands
