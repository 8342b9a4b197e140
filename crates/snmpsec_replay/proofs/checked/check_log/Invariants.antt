use Rattle.std.proofs.Common.{◌≤◌, vec_capacity}
use Rattle.snmpsec_replay.specs.Checked.{ReadsLog}
use Rattle.snmpsec_replay.proofs.Replays.{IsNext}
use Rattle.snmpsec_replay.proofs.checked.check_log.Given as goal

abbrev pub invariant-loop-taken : goal.invariant-loop-taken
invariant-loop-taken g l = record {
  stands : ReadsLog (g.R.Read.remaining l.fn.reader) (g.R.Read.remaining l.reader) (IsNext l.taken);
  room : 131072 ≤ vec_capacity l.line;
}
