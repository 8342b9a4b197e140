use Rattle.snmp_responder.specs.Code.{seen_by}
use Rattle.snmp_walk.specs.Bindings.{given_says}
use Rattle.snmp_walk.proofs.Steps.{takes_stands}
use Rattle.snmp_walk.proofs.column.Column.take.Goals as goal

pub returns-clause-stands : goal.returns-clause-stands
returns-clause-stands c told there stands =
    let self = c.args.self.now in
    takes_stands (seen_by c.args.viewer.now) told self.operation self.first c.requires.0 (given_says c.args.given) self.progress c.progress_after.result c.requires.1 c.requires.2 there c.progress_after.ensures stands
