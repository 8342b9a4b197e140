use Rattle.std.proofs.Common.{◌+◌, ◌-◌, ◌≤◌, length}
use Rattle.capture_files.specs.Packet.{LeadsTo}
use Rattle.capture_files.proofs.packet.follow.Given as goal

abbrev pub invariant-loop-place : goal.invariant-loop-place
invariant-loop-place l = record {
  leads : LeadsTo l.packet l.place;
  near : l.place.at ≤ length l.packet + 2048;
}

abbrev pub decreases-loop-place : goal.decreases-loop-place
decreases-loop-place l = length l.packet - l.place.at
