use Rattle.std.proofs.Common.{rules, ◌≡◌, ◌+◌, ◌∷◌, length}
use Rattle.tests_callers.proofs.forwarder_handles.forward_handle.Goals as goal

pub loop-now-preserved : goal.loop-now-preserved
loop-now-preserved c =
    let events = c.loop-now.invariant.0 in
    let more = c.forward_handle_once.ensures in
    let count : length (more.0 ∷ events) ≡ c.loop-now.now-index + 1 = search rules in
    (more.0 ∷ events, count, (c.loop-now.forwarder, c.loop-now.invariant.2, more.2))
