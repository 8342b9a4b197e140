use Rattle.std.proofs.Common.{None, refl, rules}
use Rattle.listener_handles.proofs.handle.ListenerHandle.clear.Goals as goal

pub returns : goal.returns
returns c = (
  record {
    tables = c.in-Ok.tables;
    rules = record { least_level = None; sources = c.new-6.result; viewed = c.new-7.result; most = 0 };
    no_sources = c.new-6.ensures.items;
    no_names = c.new-7.ensures.items;
    is_new = search rules;
  },
  refl,
  refl,
)
