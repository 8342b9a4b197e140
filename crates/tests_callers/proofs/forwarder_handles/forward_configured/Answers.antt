use Rattle.std.proofs.Common.{length}
use Rattle.tests_callers.proofs.ForwardServed.{forwarded}
use Rattle.tests_callers.proofs.forwarder_handles.forward_configured.Goals as goal

pub returns : goal.returns
returns c =
    let ran = c.forward_handle.ensures in
    forwarded c.notifications_are_originated.ensures.history c.notifications_are_originated.ensures.few c.args.config.now c.args.boots c.args.started (length c.args.comings.now) c.in-Ok.forwarder c.forward_handle.new.forwarder ran.0 c.in-Ok.ensures ran.1 ran.2
