use Rattle.std.proofs.Common.{drop, map}
use Rattle.capture_dumps.specs.Line.{kind}
use Rattle.capture_dumps.specs.Dumps.{ReadUp}
use Rattle.capture_dumps.proofs.dumps.dumps_in.Given as goal

abbrev pub invariant-loop-place : goal.invariant-loop-place
invariant-loop-place l = ReadUp (map kind l.lines) (drop l.place (map kind l.lines)) l.reading
