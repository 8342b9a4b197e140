use Rattle.std.proofs.Common.{◌≡◌, ◌+◌, drop}
use Rattle.std.specs.List.{prefix_len}
use Rattle.capture_dumps.specs.Dump.{is_zero}
use Rattle.capture_dumps.proofs.dump.zeros.Given as goal

abbrev pub invariant-loop-place : goal.invariant-loop-place
invariant-loop-place l = prefix_len is_zero l.text ≡ l.place + prefix_len is_zero (drop l.place l.text)
