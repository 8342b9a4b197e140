use Rattle.std.proofs.Common.{length}
use Rattle.tests_callers.proofs.GateServed.{mediated}
use Rattle.tests_callers.proofs.gateway_handles.serve_configured.Goals as goal

pub returns : goal.returns
returns c =
    let served = c.serve_handle.ensures in
    mediated c.a_handle_mediates.ensures.runs c.a_gateway_keeps_to_its_limits.ensures.history c.args.config.now c.args.boots c.args.started (length c.args.comes.now) c.in-Ok.gate c.serve_handle.new.gate served.0 c.in-Ok.ensures served.1 served.2 served.3
