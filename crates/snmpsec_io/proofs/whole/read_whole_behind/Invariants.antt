use Rattle.std.proofs.Common.{◌≤◌, ◌-◌, List, ℕ, Option, vec_len}
use Rattle.std.specs.Io.KnownBytes.{Consumes}
use Rattle.snmpsec_io.proofs.whole.read_whole_behind.Given as goal

abbrev pub invariant-chunks : goal.invariant-chunks
invariant-chunks g l = record {
  read : (unread : Option (List ℕ)) → Consumes unread (g.R.Read.remaining l.fn.reader) l.fn.front → Consumes unread (g.R.Read.remaining l.reader) l.bytes.items;
  short : vec_len l.bytes ≤ l.limit;
}

abbrev pub decreases-chunks : goal.decreases-chunks
decreases-chunks g l = l.limit - vec_len l.bytes
