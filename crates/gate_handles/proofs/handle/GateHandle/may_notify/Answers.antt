use Rattle.std.proofs.Common.{◌∙◌, ap, sym}
use Rattle.gate_handles.specs.Gates.{GateHeld}
use Rattle.gate_handles.proofs.Places.{at_place}
use Rattle.gate_handles.proofs.handle.GateHandle.may_notify.Goals as goal

pub returns : goal.returns
returns c =
    let to = c.in-Some-get.ensures.lookup in
    let from = c.in-Some-get-2.ensures.lookup in
    let receivers = ap (λ (h : GateHeld). h.receivers) (sym c.self.view_is) ∙ sym c.deref.ensures.value in
    let devices = ap (λ (h : GateHeld). h.devices) (sym c.self.view_is) ∙ sym c.deref-2.ensures.value in
    let agent = c.agent.ensures ∙ ap (λ (h : GateHeld). h.gate.agent) c.self.view_is in (
      c.in-Some-get.to.now,
      c.in-Some-get-2.from.now,
      at_place c.args.self.now.receivers c.deref.result.now c.args.receiver c.in-Some-get.to.now receivers to.3.0 to.1,
      at_place c.args.self.now.devices c.deref-2.result.now c.args.device c.in-Some-get-2.from.now devices from.3.0 from.1,
      rw (agent, c.as_slice-user.ensures.octets, c.as_slice-context.ensures.octets, c.in-Some.ensures.value) at c.may.ensures,
    )
