use Rattle.std.proofs.Common.{◌≡◌, ◌+◌, drop, not}
use Rattle.std.specs.List.{prefix_len}
use Rattle.capture_dumps.specs.Dump.{is_blank}
use Rattle.capture_dumps.proofs.line.word_size.Given as goal

abbrev pub invariant-loop-place : goal.invariant-loop-place
invariant-loop-place l = prefix_len (λ c. not (is_blank c)) l.text ≡ l.place + prefix_len (λ c. not (is_blank c)) (drop l.place l.text)
