use Rattle.std.proofs.Common.{subst, sym, List, ℕ}
use Rattle.snmp_responder.specs.Code.{seen_by}
use Rattle.snmp_walk.specs.Column.{StandsIn}
use Rattle.snmp_walk.proofs.Steps.{begun_stands}
use Rattle.snmp_walk.proofs.column.Column.new.Goals as goal

pub returns-clause-stands : goal.returns-clause-stands
returns-clause-stands c told =
    let seen = seen_by c.args.viewer.now in
    let progress = c.in_ok-progress.progress in
    subst (λ (name : List ℕ). StandsIn seen told c.args.operation name progress) (sym c.in_ok-first.ensures)
    (begun_stands seen told c.args.operation c.args.name.now progress c.in_ok-progress.ensures)
