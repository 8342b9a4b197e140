use Rattle.std.proofs.Common.{◌≡◌, ◌≤◌, ℕ, List, length, take, vec_len}
use Rattle.std.specs.Prelude.{vec_capacity}
use Rattle.engine_clock.specs.Marks.{pair_at}
use Rattle.snmp_manager.specs.Known.{IsLatest, datagrams_of}
use Rattle.snmp_manager.specs.Runs.{Runs}
use Rattle.snmp_manager.proofs.manager.Manager.run.Given as goal

-- Of the datagrams so far the greatest that is known is held, and there is room for the outcomes of the others.
abbrev pub invariant-loop-i : goal.invariant-loop-i
invariant-loop-i l = record {
  users : l.self.users ≡ l.fn.self.users;
  latest : (engine : List ℕ) → IsLatest l.fn.self.users (pair_at l.fn.self.clocks engine) (datagrams_of (take l.i l.datagrams)) engine (pair_at l.self.clocks engine);
  outcomes : Runs l.fn.self (take l.i l.datagrams) l.outcomes.items l.self;
  len : vec_len l.outcomes ≡ l.i;
  room : length l.datagrams ≤ vec_capacity l.outcomes;
}
