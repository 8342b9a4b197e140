use Rattle.std.proofs.Common.{refl, rules}
use Rattle.gate_handles.proofs.forward.ForwardHandle.of.Goals as goal

pub returns : goal.returns
returns c = record {
  in_range = search rules;
  settings = c.in_ok-said.said.gate;
  devices = c.in_ok-said.said.devices.items;
  receivers = c.in_ok-said.said.receivers.items;
  users = c.in_ok-said.said.users.users;
  tables = c.in_ok-said.said.access;
  loads = c.in_ok-said.ensures.loads;
  originator = rw (c.new-agent.ensures, c.deref.ensures.value, c.deref-2.ensures.value, c.copy.ensures, c.in-Ok.ensures.users) at c.in-Ok-originator_of.ensures;
  quiet = refl;
}
