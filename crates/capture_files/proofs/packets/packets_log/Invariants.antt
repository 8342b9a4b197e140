use Rattle.std.proofs.Common.{◌+◌, map, take}
use Rattle.capture_files.specs.Datagrams.{PrintsAs, Sorts}
use Rattle.capture_files.specs.Packets.{packet_record}
use Rattle.capture_files.specs.Tally.{IsBelow, counts_of, none_passed}
use Rattle.capture_files.proofs.packets.packets_log.Given as goal

abbrev pub invariant-loop-place : goal.invariant-loop-place
invariant-loop-place g l = record {
  sorts : Sorts (g.P.Printer.prints l.fn.printer) l.ports 1 (map (packet_record l.moment) (map (λ packet. packet.items) (take l.place l.packets))) none_passed l.told.log.items l.told.notes.items (counts_of l.told.passed);
  keeps : PrintsAs (g.P.Printer.prints l.printer) (g.P.Printer.prints l.fn.printer);
  below : IsBelow (counts_of l.told.passed) (l.place + 1);
}
