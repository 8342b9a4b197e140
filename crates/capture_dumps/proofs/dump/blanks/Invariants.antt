use Rattle.std.proofs.Common.{◌≡◌, ◌+◌, drop}
use Rattle.std.specs.List.{prefix_len}
use Rattle.capture_dumps.specs.Dump.{is_blank}
use Rattle.capture_dumps.proofs.dump.blanks.Given as goal

abbrev pub invariant-loop-place : goal.invariant-loop-place
invariant-loop-place l = prefix_len is_blank l.text ≡ l.place + prefix_len is_blank (drop l.place l.text)
