-- How many datagrams were dropped for each reason.
use Rattle.std.specs.Prelude.{ℕ, ◌+◌, ◌%◌, ◌^◌, List, slice_index, slice_set, Option, Some, None}
use Rattle.snmp_message.specs.Numbers.{refusal_number}
use Rattle.snmp_listener.specs.declared.dropped.Dropped.{Dropped}
use Rattle.snmp_listener.specs.declared.dropped.Dropped.TheVariants.{Refused, OtherPdu, LowLevel, OtherAddress}
use Rattle.snmp_listener.specs.declared.dropped.Dropped.TheVariants.{OutsideView, Copy, NoRoom}

-- how many places there are
abbrev pub places : ℕ
places = 25

-- the place of a reason's counter: a refusal's number, or one above them
abbrev pub place_of : Dropped → ℕ
place_of (Refused refusal) = refusal_number refusal
place_of OtherPdu = 19
place_of LowLevel = 20
place_of OtherAddress = 21
place_of OutsideView = 22
place_of Copy = 23
place_of NoRoom = 24

-- one more for this reason, a Counter64: it goes from 18446744073709551615 to 0
abbrev pub counted : List ℕ → Dropped → List ℕ
counted counts why = slice_set counts (place_of why) ((slice_index counts (place_of why) + 1) % 2 ^ 64)

abbrev pub counts_after : List ℕ → Option Dropped → List ℕ
counts_after counts None = counts
counts_after counts (Some why) = counted counts why
