use Rattle.std.proofs.Common.{ℕ, ◌≤◌, ◌-◌, length, take}
use Rattle.capture_dumps.specs.Text.{AreParts}
use Rattle.capture_dumps.proofs.text.read_hex.Given as goal

abbrev pub invariant-loop-read : goal.invariant-loop-read
invariant-loop-read l = record {
  are : (n : ℕ) × AreParts n (take l.read l.text) l.octets.items;
  within : l.read ≤ length l.text;
}

abbrev pub decreases-loop-read : goal.decreases-loop-read
decreases-loop-read l = length l.text - l.read
