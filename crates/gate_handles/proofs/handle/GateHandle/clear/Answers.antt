use Rattle.std.proofs.Common.{refl, sym, subst}
use Rattle.gate_handles.specs.Gates.{IsEmptyAgent}
use Rattle.gate_handles.proofs.handle.GateHandle.clear.Goals as goal

pub returns : goal.returns
returns c =
    let made = c.in-Ok.ensures.new in record {
      no_users = subst IsEmptyAgent (sym made.agent_is) c.in_ok-agent.ensures.agent;
      gate = record {
        agent_is = refl;
        asks = rw (c.deref.ensures.value, c.new-devices.ensures.items) at made.asks;
        stands = made.stands;
        bounded = made.bounded;
        none_wait = made.none_wait;
      };
      path = c.empty_settings-settings.ensures.path;
      listens = c.empty_settings-settings.ensures.listen;
      takes_no_traps = c.empty_settings-settings.ensures.traps;
      no_devices = c.new-devices.ensures.items;
      no_receivers = c.new.ensures.items;
      no_access = c.new-2.ensures.items;
      no_views = c.new-3.ensures.items;
      quiet = record { message = refl; client = refl; note = refl };
    }
