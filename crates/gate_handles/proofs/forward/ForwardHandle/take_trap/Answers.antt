use Rattle.std.proofs.Common.{◌∙◌, ap}
use Rattle.gate_handles.specs.Forwards.{ForwardHeld}
use Rattle.gate_handles.proofs.Forwards.{took}
use Rattle.gate_handles.proofs.forward.ForwardHandle.take_trap.Goals as goal

pub returns-in-Ok : goal.returns-in-Ok
returns-in-Ok c =
    took c.args.self.now c.took_trap.new.self c.self.inside.originator c.take_trap.new.self _ c.args.device c.args.datagram.now c.in-Ok.taken _ (ap (λ (h : ForwardHeld). h.originator) c.self.view_is ∙ c.begin_call.ensures.originator) c.took_trap.ensures.originator (ap (λ (h : ForwardHeld). h.noted) c.self.view_is ∙ c.begin_call.ensures.noted) c.in-Ok.ensures.takes c.in-Ok.ensures.taken c.in-Ok.ensures.informs c.took_trap.ensures.tells
