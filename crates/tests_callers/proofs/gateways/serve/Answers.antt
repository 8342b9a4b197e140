use Rattle.std.proofs.Common.{rules, ◌≡◌, ◌≤◌, ◌+◌, ◌∷◌, length, sym, subst}
use Rattle.snmp_gate.specs.Runs.{moment_of}
use Rattle.tests_callers.proofs.gateways.serve.Goals.{then-now-moment, else-now-moment}
use Rattle.tests_callers.proofs.gateways.serve.Goals as goal

pub loop-now-preserved : goal.loop-now-preserved
loop-now-preserved c =
    let events = c.loop-now.invariant.0 in
    let turn : moment_of events ≤ c.if-now-moment.moment = elim c.if-now-moment.branch [ then-now-moment w ↦ search rules | else-now-moment w ↦ search rules ] in
    let more = c.serve_one.ensures c.args.gate.now events c.loop-now.invariant.3 turn in
    let same : c.if-now-moment.moment ≤ c.if-now-moment.moment = search rules in
    let count : length (more.0 ∷ events) ≡ c.loop-now.now-index + 1 = search rules in
    (more.0 ∷ events, count, subst (λ moment. moment ≤ c.if-now-moment.moment) (sym more.2) same, more.3)
