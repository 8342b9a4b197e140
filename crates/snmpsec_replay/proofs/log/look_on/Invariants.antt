use Rattle.std.proofs.Common.{◌≡◌, ◌≤◌, vec_len, vec_capacity}
use Rattle.std.specs.Io.KnownBytes.{Keeps}
use Rattle.snmpsec_replay.proofs.log.look_on.Given as goal

abbrev pub invariant-loop : goal.invariant-loop
invariant-loop g l = record {
  same : l.line.items ≡ l.fn.line.items;
  kept : Keeps (g.R.Read.remaining l.fn.reader) (g.R.Read.remaining l.reader);
  short : vec_len l.line ≤ 131072;
  room : 131072 ≤ vec_capacity l.line;
}
