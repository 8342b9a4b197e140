use Rattle.gate_handles.proofs.Contexts.{not_repeated}
use Rattle.gate_handles.proofs.Forwards.{none_waits}
use Rattle.gate_handles.proofs.forward.forwarder_of.Goals as goal

pub unreachable-requires : goal.unreachable-requires
unreachable-requires c = not_repeated c.in_ok-list.list.items c.args.devices.now c.in_default.field-0.number c.in_ok-list.ensures c.requires.contexts c.in_default.ensures

pub returns-clause-none_wait : goal.returns-clause-none_wait
returns-clause-none_wait c = none_waits c.new-2.result c.new-2.ensures.stands
