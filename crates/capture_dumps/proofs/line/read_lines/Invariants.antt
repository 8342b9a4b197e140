use Rattle.std.proofs.Common.{List, ◌++◌, length, map}
use Rattle.capture_dumps.specs.Line.{AreLines, Kind, kind}
use Rattle.capture_dumps.proofs.line.read_lines.Given as goal

abbrev pub invariant-lines : goal.invariant-lines
invariant-lines l = (later : List Kind) → AreLines l.rest later → AreLines l.fn.text (map kind l.lines.items ++ later)

abbrev pub decreases-lines : goal.decreases-lines
decreases-lines l = length l.rest
