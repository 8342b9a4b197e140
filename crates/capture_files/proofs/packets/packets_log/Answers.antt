use Rattle.std.proofs.Common.{◌+◌, List, ℕ, Some, refl, subst, arith}
use Rattle.capture_files.specs.Datagrams.{WritesRecord}
use Rattle.capture_files.specs.Packets.{packet_record}
use Rattle.capture_files.specs.Tally.{counts_of}
use Rattle.capture_files.proofs.Counts.{starts_below, below_most, below_next}
use Rattle.capture_files.proofs.Logs.{writes_as}
use Rattle.capture_files.proofs.RawRecords.{next_packet}
use Rattle.capture_files.proofs.packets.packets_log.Goals as goal

pub loop-place-init : goal.loop-place-init
loop-place-init g c = record {
  sorts = (c.new.ensures.items, c.new-2.ensures.items, c.in_ok-none.ensures);
  keeps = λ n moment datagram text refused prints. prints;
  below = starts_below _ c.in_ok-none.ensures;
}

pub write_packet-requires : goal.write_packet-requires
write_packet-requires g c = below_most _ _ _ c.loop-place.invariant.below (omega (arith, c.loop-place-test.true))

pub loop-place-preserved : goal.loop-place-preserved
loop-place-preserved g c =
    let inv = c.loop-place.invariant in
    let prints = g.P.Printer.prints c.args.printer.now in
    let packet = c.index-packets-place.result in
    let now = c.write_packet.new in
    let said = subst (λ (octets : List ℕ). WritesRecord (g.P.Printer.prints c.loop-place.printer) c.args.ports.now (packet_record c.args.moment octets) (c.loop-place.place + 1) (counts_of c.loop-place.told.passed) (counts_of now.told.passed) (Some c.loop-place.told.log.items) (Some now.told.log.items) (Some c.loop-place.told.notes.items) (Some now.told.notes.items))
    c.deref.ensures.value c.in_ok-write_packet.ensures.ok in
    let item = writes_as (g.P.Printer.prints c.loop-place.printer) prints c.args.ports.now (c.loop-place.place + 1) (c.loop-place.place + 1 + 1) (counts_of c.loop-place.told.passed) (counts_of now.told.passed) (Some c.loop-place.told.log.items) (Some now.told.log.items) (Some c.loop-place.told.notes.items) (Some now.told.notes.items)
    (Some (packet_record c.args.moment packet.items)) inv.keeps (refl, said) in
    record {
      sorts = next_packet (λ p. p.items) prints c.args.ports.now c.args.moment c.args.packets.now c.loop-place.place packet c.loop-place.told.log.items c.loop-place.told.notes.items now.told.log.items now.told.notes.items (counts_of c.loop-place.told.passed) (counts_of now.told.passed) c.loop-place-test.true c.index-packets-place.is inv.sorts item.1;
      keeps = λ n moment datagram text refused p. inv.keeps n moment datagram text refused (c.in_ok-write_packet.ensures.keeps n moment datagram text refused p);
      below = below_next prints c.args.ports.now (Some (packet_record c.args.moment packet.items)) (c.loop-place.place + 1) (c.loop-place.place + 1 + 1) (counts_of c.loop-place.told.passed) (counts_of now.told.passed) (Some c.loop-place.told.log.items) (Some now.told.log.items) (Some c.loop-place.told.notes.items) (Some now.told.notes.items) item inv.below;
    }
