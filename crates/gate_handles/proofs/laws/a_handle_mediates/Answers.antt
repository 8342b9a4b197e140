use Rattle.gate_handles.proofs.Handling.{handled}
use Rattle.gate_handles.specs.Calls.{held_after}
use Rattle.gate_handles.proofs.laws.a_handle_mediates.Goals as goal

pub returns-clause-runs : goal.returns-clause-runs
returns-clause-runs c first calls run = let known = handled first calls run in (known.events, known.are, known.run)

pub returns-clause-history : goal.returns-clause-history
returns-clause-history c first calls stands run =
    let known = handled first calls run in
    let history = c.a_gateway_mediates.ensures first.gate (held_after first calls).gate known.events stands known.run in
    (known.events, history.0, known.are, history.1)
