-- What `snmpsec datagrams`, `show --from` and `open --from` do with dumps of packets.
use Rattle.std.specs.Prelude.{◌≡◌, ℕ, List, ◌++◌}
use Rattle.capture_files.specs.Datagrams.{Printing}
use Rattle.capture_files.specs.Packets.{ComeTo}
use Rattle.capture_files.specs.Tally.{Counts}
use Rattle.capture_datagrams.specs.Datagrams.{IsPassedLine, status_of}

-- What is printed of packets that were received at this moment, what is reported beside, and the status: they
-- come to what records of a capture do, and after what is reported of them by their numbers comes the line for
-- what was passed over.
pub record PrintsPackets (P : Printing) (ports : List ℕ) (moment : ℕ) (packets : List (List ℕ)) (text note : List ℕ)
    (status : ℕ) : Type 0 where
  pub passed : Counts
  pub notes : List ℕ
  pub line : List ℕ
  pub come_to : ComeTo P ports moment packets text notes passed
  pub is_line : IsPassedLine passed line
  pub beside : note ≡ notes ++ line
  pub refusing : status ≡ status_of passed.refused
