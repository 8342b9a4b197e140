use Rattle.std.proofs.Common.{◌≡◌, ◌+◌, drop}
use Rattle.std.specs.List.{prefix_len}
use Rattle.capture_dumps.specs.Dump.{is_digit}
use Rattle.capture_dumps.proofs.offset.digit_count.Given as goal

abbrev pub invariant-loop-place : goal.invariant-loop-place
invariant-loop-place l = prefix_len is_digit l.text ≡ l.place + prefix_len is_digit (drop l.place l.text)
