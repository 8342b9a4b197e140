use Rattle.std.specs.Prelude.{[]}
use Rattle.diagnose_text.specs.Printing.{Writes}
use Rattle.diagnose_text.proofs.diagnoser.Diagnoser.print_finished.Given as goal

abbrev pub invariant-loop-turn : goal.invariant-loop-turn
invariant-loop-turn l = Writes [] l.fn.self l.fn.out.items l.self l.out.items
