use Rattle.std.proofs.Common.{inl, rules, subst}
use Rattle.snmp_gate.specs.Fits.{IsFitTold}
use Rattle.snmp_gate.specs.Hidden.{IsHiddenTold}
use Rattle.gate_handles.specs.Gates.{GateHeld}
use Rattle.gate_handles.proofs.handle.GateHandle.take_device.Goals as goal

pub returns-in-Ok : goal.returns-in-Ok
returns-in-Ok c = (
  search rules,
  inl (record {
    taken = c.in-Ok.taken;
    tells = c.took_device.ensures.tells;
    fits = subst (λ (held : GateHeld). IsFitTold held.gate c.args.device c.args.datagram.now c.in-Ok.taken) c.self.view_is c.in-Ok.ensures.fits;
    hidden = subst (λ (held : GateHeld). IsHiddenTold held.gate c.args.device c.args.datagram.now c.in-Ok.taken) c.self.view_is c.in-Ok.ensures.hidden;
    takes = search rules;
    unreadable = c.in-Ok.ensures.unreadable;
    counted = search rules;
    device_is = c.took_device.ensures.device;
  }),
)
