use Rattle.std.proofs.Common.{◌≤◌, ◌+◌, take}
use Rattle.capture_dumps.specs.Text.{IsBehind}
use Rattle.capture_dumps.proofs.place.place_behind.Given as goal

abbrev pub invariant-loop-octet : goal.invariant-loop-octet
invariant-loop-octet l = record {
  behind : IsBehind (take l.octet-index l.text) l.place.line l.place.column;
  line : l.place.line ≤ l.octet-index + 1;
  column : l.place.column ≤ l.octet-index + 1;
}
