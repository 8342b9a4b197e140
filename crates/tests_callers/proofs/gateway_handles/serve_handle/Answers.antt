use Rattle.std.proofs.Common.{rules, ◌≡◌, ◌≤◌, ◌+◌, ◌∷◌, length, sym, subst}
use Rattle.gate_handles.specs.Calls.{latest}
use Rattle.tests_callers.proofs.gateway_handles.serve_handle.Goals.{then-now-moment, else-now-moment}
use Rattle.tests_callers.proofs.gateway_handles.serve_handle.Goals as goal

pub loop-now-preserved : goal.loop-now-preserved
loop-now-preserved c =
    let calls = c.loop-now.invariant.0 in
    let turn : latest calls ≤ c.if-now-moment.moment = elim c.if-now-moment.branch [ then-now-moment w ↦ search rules | else-now-moment w ↦ search rules ] in
    let more = c.serve_handle_once.ensures c.args.gate.now calls c.loop-now.invariant.3 c.loop-now.invariant.4 turn in
    let same : c.if-now-moment.moment ≤ c.if-now-moment.moment = search rules in
    let count : length (more.0 ∷ calls) ≡ c.loop-now.now-index + 1 = search rules in
    (more.0 ∷ calls, count, subst (λ moment. moment ≤ c.if-now-moment.moment) (sym more.4) same, more.2, more.3)
