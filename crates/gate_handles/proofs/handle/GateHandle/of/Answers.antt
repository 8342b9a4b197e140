use Rattle.std.proofs.Common.{refl, rules}
use Rattle.gate_handles.proofs.handle.GateHandle.of.Goals as goal

pub returns : goal.returns
returns c = record {
  in_range = search rules;
  users = c.in_ok-said.said.users.users;
  tables = c.in_ok-said.said.access;
  loads = c.in_ok-said.ensures.loads;
  access = c.in_ok-access.ensures.access;
  gate = rw (c.new-agent.ensures, c.deref.ensures.value, c.copy.ensures) at c.in-Ok.ensures.new;
  limits = c.in-Ok.ensures.limits;
  quiet = record { message = refl; client = refl; note = refl };
}
