use Rattle.std.proofs.Common.{◌≡◌, ◌+◌, ◌-◌, ◌≤◌, length}
use Rattle.capture_files.specs.Datagrams.{PrintsAs, Stands, streams}
use Rattle.capture_files.specs.Formats.{state_of}
use Rattle.capture_files.specs.Tally.{IsBelow, counts_of}
use Rattle.capture_files.proofs.Logs.{IsBefore}
use Rattle.capture_files.proofs.datagrams.write_items.Given as goal

abbrev pub invariant-loop-place : goal.invariant-loop-place
invariant-loop-place g l = record {
  stands : Stands (g.P.Printer.prints l.fn.printer) l.ports (state_of l.fn.start.begun.format) (streams (g.R.Read.remaining l.fn.reader) (g.R.Read.remaining l.reader) (g.L.Write.contents l.fn.log) (g.L.Write.contents l.log) (g.N.Write.contents l.fn.notes) (g.N.Write.contents l.notes))
      (IsBefore l.fn.start.begun.place l.number l.place (state_of l.format)) (counts_of l.passed);
  keeps : PrintsAs (g.P.Printer.prints l.printer) (g.P.Printer.prints l.fn.printer);
  below : IsBelow (counts_of l.passed) l.number;
  near : l.number ≤ l.place + 1;
  most : l.place ≤ 4611686022722355199;
  room : length l.room ≡ 262172;
}

abbrev pub decreases-loop-place : goal.decreases-loop-place
decreases-loop-place g l = 4611686018427387904 - l.place
