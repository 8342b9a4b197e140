use Rattle.gate_handles.proofs.Contexts.{not_repeated}
use Rattle.gate_handles.proofs.gate_parts.gate_of.Goals as goal

pub unreachable-requires : goal.unreachable-requires
unreachable-requires c = not_repeated c.in_ok-list.list.items c.args.devices.now c.in_default.field-0.number c.in_ok-list.ensures c.requires c.in_default.ensures
