use Rattle.std.proofs.Common.{◌≤◌, vec_capacity}
use Rattle.capture_files.specs.Datagrams.{PrintsAs, streams}
use Rattle.capture_datagrams.specs.LogPrints.{Stands}
use Rattle.capture_datagrams.proofs.LogEntries.{IsNext}
use Rattle.capture_datagrams.proofs.logs.print_log.Given as goal

abbrev pub invariant-loop-number : goal.invariant-loop-number
invariant-loop-number g l = record {
  stands : Stands (g.P.Printer.prints l.fn.printer) (streams (g.R.Read.remaining l.fn.reader) (g.R.Read.remaining l.reader) (g.L.Write.contents l.fn.out) (g.L.Write.contents l.out) (g.N.Write.contents l.fn.notes) (g.N.Write.contents l.notes)) (IsNext l.number) l.refused;
  keeps : PrintsAs (g.P.Printer.prints l.printer) (g.P.Printer.prints l.fn.printer);
  room : 131072 ≤ vec_capacity l.line;
}
