-- Packets without a capture around them, each a record.
--
-- `ComeTo P ports moment packets log notes passed`. Packets that begin with their IP header, each as a
-- record of that link and moment (`packet_record`), are sorted as those of a capture are.
use Rattle.std.specs.Prelude.{ℕ, List, length, map, Some}
use Rattle.capture_files.specs.Items.{Record}
use Rattle.capture_files.specs.Tally.{Counts, none_passed}
use Rattle.capture_files.specs.Datagrams.{Printing, Sorts}

-- a packet that begins with its IP header, whole, and was received at this moment
abbrev pub packet_record : ℕ → List ℕ → Record
packet_record moment packet = record { link = 101; moment = Some moment; packet = packet; original = length packet }

-- Such packets are records, numbered from 1: the log has their datagrams as they are printed, and each other
-- packet is reported or counted.
abbrev pub ComeTo : Printing → List ℕ → ℕ → List (List ℕ) → List ℕ → List ℕ → Counts → Type 0
ComeTo P ports moment packets log notes passed = Sorts P ports 1
    (map (packet_record moment) packets) none_passed log notes passed
