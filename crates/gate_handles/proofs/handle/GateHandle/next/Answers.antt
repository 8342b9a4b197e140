use Rattle.std.proofs.Common.{inl, rules, subst, sym}
use Rattle.snmp_gate.specs.Told.{IsSentTold}
use Rattle.gate_handles.specs.Gates.{GateHeld}
use Rattle.gate_handles.proofs.handle.GateHandle.next.Goals as goal

pub returns-in-Ok : goal.returns-in-Ok
returns-in-Ok c = (
  search rules,
  inl (record {
    sent = c.in-Ok.sent;
    tells = c.note_sent.ensures.tells;
    sends = search rules;
    told_of = subst (λ (held : GateHeld). IsSentTold held.gate c.in-Ok.sent) c.self.view_is c.in-Ok.ensures.told;
    counted = search rules;
  }),
)
