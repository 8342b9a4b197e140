use Rattle.std.proofs.Common.{Some, subst}
use Rattle.snmp_gate.specs.RequestTags.{IsMessageOf}
use Rattle.gate_handles.specs.Gates.{GateHeld}
use Rattle.gate_handles.proofs.handle.GateHandle.asker.Goals as goal

pub returns-in-Some : goal.returns-in-Some
returns-in-Some c = (
  Some c.in-Some.message.now,
  subst (λ (held : GateHeld). IsMessageOf held.gate.requests.list.items c.args.request c.in-Some.message.now) c.self.view_is c.in-Some.ensures,
  rw c.deref.ensures.value at c.copied_octets.ensures,
)
