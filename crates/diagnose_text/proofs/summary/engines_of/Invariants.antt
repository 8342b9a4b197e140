use Rattle.std.specs.List.{All}
use Rattle.diagnose_text.specs.Engines.{IsKnown}
use Rattle.diagnose_text.proofs.summary.engines_of.Given as goal

abbrev pub invariant-loop-line : goal.invariant-loop-line
invariant-loop-line l = All (IsKnown l.clocks) l.engines.items
