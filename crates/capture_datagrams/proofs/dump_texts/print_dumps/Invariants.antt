use Rattle.std.proofs.Common.{map, take}
use Rattle.capture_files.specs.Datagrams.{PrintsAs}
use Rattle.capture_datagrams.specs.Dumped.{PrintsAll}
use Rattle.capture_datagrams.proofs.dump_texts.print_dumps.Given as goal

abbrev pub invariant-loop-place : goal.invariant-loop-place
invariant-loop-place g l = record {
  prints : PrintsAll (g.P.Printer.prints l.fn.printer) 1 l.moment (map (λ octets. octets.items) (take l.place l.dumps)) l.text.items l.refused;
  keeps : PrintsAs (g.P.Printer.prints l.printer) (g.P.Printer.prints l.fn.printer);
}
