-- The log of a capture: a text for each datagram, in the order of the records, a line or another. Each other
-- record is reported in a line of its own, or counted by its reason.
--
-- `IsLogOf ports capture log notes passed`. The capture is a beginning and items; each record of them in
-- order is a line of the log, or a line of what is reported, or one more of a reason (`Sorts`, by
-- `IsSortedRecord`). `StopsBy`: what was read and written where it stops with a fault; `IsBad`: what begins
-- there is no item. `StopsWriting`: of the log or of what is reported an end isn't written.
use Rattle.std.specs.Prelude.{◌≡◌, ◌⊎◌, ℕ, ◌+◌, ◌<◌, ◌≤◌, ◌==◌, ◌||◌, nat_le, Bool, true, false, List, [], ◌∷◌, ◌++◌}
use Rattle.std.specs.Prelude.{length, codes, Option, Some, None, decimal}
use Rattle.std.specs.List.{list_any}
use Rattle.std.specs.Io.KnownBytes.{Appends, Consumes, IsAtEnd, Keeps}
use Rattle.hex.specs.Hex.{encode_lower}
use Rattle.snmpsec_io.specs.Transfer.{WritesFront}
use Rattle.capture_files.specs.Packet.{IsFound}
use Rattle.capture_files.specs.Tally.{Counts, none_passed, one_more, one_printed}
use Rattle.capture_files.specs.Items.{Record}
use Rattle.capture_files.specs.Formats.{AreItems, HasBegun, HasNoItem, IsBeginning, IsItem, ReadsBeginning, State}
use Rattle.capture_files.specs.Formats.{records_of}
use Rattle.capture_files.specs.declared.packet.Found.{Found}
use Rattle.capture_files.specs.declared.packet.Found.TheVariants as found
use Rattle.capture_files.specs.declared.datagrams.Sorted.{Sorted}
use Rattle.capture_files.specs.declared.datagrams.Sorted.TheVariants.{Logged, Told, Counted}
use Rattle.capture_files.specs.declared.datagrams.Telling.{Telling}
use Rattle.capture_files.specs.declared.datagrams.Telling.TheVariants as telling
use Rattle.capture_files.specs.declared.tally.Reason.TheVariants as reason
use Rattle.capture_files.specs.declared.datagrams.Captured.{Captured}
use Rattle.capture_files.specs.declared.fault.CaptureFault.{CaptureFault}
use Rattle.capture_files.specs.declared.fault.CaptureFault.TheVariants as fault

-- ---- what becomes of a record

-- one of the two ports is wanted
abbrev pub is_wanted : List ℕ → ℕ → ℕ → Bool
is_wanted ports source destination = list_any (λ port. port == source) ports || list_any
    (λ port. port == destination) ports

abbrev pub IsDatagramSorted : List ℕ → ℕ → ℕ → ℕ → List ℕ → Sorted → Type 0
IsDatagramSorted ports moment source destination octets (Logged at datagram) =
    (is_wanted ports source destination ≡ true) × (0 < length octets) × (at ≡ moment) × (datagram.now ≡ octets)
IsDatagramSorted ports moment source destination octets (Told why) =
    (is_wanted ports source destination ≡ true) × (octets ≡ []) × (why ≡ telling.Empty)
IsDatagramSorted ports moment source destination octets (Counted why) = (is_wanted ports source destination ≡ false)
    × (why ≡ reason.AnotherPort)

abbrev pub IsSorted : List ℕ → ℕ → ℕ → Found → Sorted → Type 0
IsSorted ports link moment
    (found.Datagram source destination octets) s = IsDatagramSorted ports moment source destination octets.now s
IsSorted ports link moment found.Fragment s = s ≡ Told telling.Fragment
IsSorted ports link moment found.CutShort s = s ≡ Told telling.CutShort
IsSorted ports link moment found.BadLength s = s ≡ Told telling.BadLength
IsSorted ports link moment found.NotUdp s = s ≡ Counted reason.NotUdp
IsSorted ports link moment found.NotIp s = s ≡ Counted reason.NotIp
IsSorted ports link moment found.OtherLink s = s ≡ Counted (reason.OtherLink link)

-- a record is reported that has no moment, and is else what is found in its packet
abbrev pub IsSortedAt : Option ℕ → List ℕ → Record → Sorted → Type 0
IsSortedAt None ports r s = s ≡ Told telling.NoMoment
IsSortedAt (Some moment) ports r s = (f : Found) × IsFound r.link r.packet (nat_le r.original (length r.packet)) f
    × IsSorted ports r.link moment f s

-- what becomes of a record, where datagrams from and to these ports are wanted
abbrev pub IsSortedRecord : List ℕ → Record → Sorted → Type 0
IsSortedRecord ports r s = IsSortedAt r.moment ports r s

-- ---- the words

abbrev pub told_word : Telling → List ℕ
told_word telling.Fragment = codes "fragment"
told_word telling.CutShort = codes "cut short"
told_word telling.BadLength = codes "bad length"
told_word telling.Empty = codes "empty datagram"
told_word telling.NoMoment = codes "no moment"

-- the line of a log for a datagram
unfoldable pub log_line : ℕ → List ℕ → List ℕ
log_line moment datagram = decimal moment ++ (codes " " ++ (encode_lower datagram ++ codes "\n"))

-- the line that tells record n
unfoldable pub note_line : ℕ → Telling → List ℕ
note_line n why = codes "snmpsec: record " ++ (decimal n ++ (codes ": " ++ (told_word why ++ codes "\n")))

-- ---- what stands for a datagram

-- Datagram n, which has these octets and was received at this moment, is printed as this text, which tells a
-- refusal or doesn't.
abbrev pub Printing : Type 1
Printing = ℕ → ℕ → List ℕ → List ℕ → Bool → Type 0

-- what the one prints the other does
abbrev pub PrintsAs : Printing → Printing → Type 0
PrintsAs P Q = (n moment : ℕ) (datagram text : List ℕ) (refused : Bool) → P n moment datagram text refused
    → Q n moment datagram text refused

-- as the line of a log
abbrev pub PrintsLine : ℕ → ℕ → List ℕ → List ℕ → Bool → Type 0
PrintsLine n moment datagram text refused = (text ≡ log_line moment datagram) × (refused ≡ false)

-- what a record adds to the log, behind so many datagrams
abbrev pub PrintsRecord : Printing → ℕ → Sorted → List ℕ → Bool → Type 0
PrintsRecord P n (Logged moment datagram) text refused = P (n + 1) moment datagram.now text refused
PrintsRecord P n (Told why) text refused = (text ≡ []) × (refused ≡ false)
PrintsRecord P n (Counted why) text refused = (text ≡ []) × (refused ≡ false)

-- what record n adds to what is reported
abbrev pub note_of : ℕ → Sorted → List ℕ
note_of n (Logged moment datagram) = []
note_of n (Told why) = note_line n why
note_of n (Counted why) = []

-- what a record adds to the counts
abbrev pub count_of : Sorted → Bool → Counts → Counts
count_of (Logged moment datagram) refused c = one_printed c refused
count_of (Told why) refused c = c
count_of (Counted why) refused c = one_more c why

-- ---- the log

-- The records from number n on are sorted, one by one: the log has the datagrams as they are printed, the
-- notes tell, and the counts go on from `before`.
abbrev pub Sorts : Printing → List ℕ → ℕ → List Record → Counts → List ℕ → List ℕ → Counts → Type 0
Sorts P ports n [] before log notes after = (log ≡ []) × (notes ≡ []) × (after ≡ before)
Sorts P ports n (r ∷ rs) before log notes after =
    (s : Sorted) × (text : List ℕ) × (refused : Bool) × (more : List ℕ) × (told : List ℕ) × IsSortedRecord ports r s
    × PrintsRecord P before.datagrams s text refused × (log ≡ text ++ more) × (notes ≡ note_of n s ++ told)
    × Sorts P ports (n + 1) rs (count_of s refused before) more told after

-- The capture's records in order, as a log, what is reported and what is counted.
pub record IsLogOf (P : Printing) (ports capture log notes : List ℕ) (passed : Counts) : Type 0 where
  pub front : List ℕ
  pub rest : List ℕ
  pub begun : State
  pub items : List (Option Record)
  pub ended : State
  pub parts : capture ≡ front ++ rest
  pub is_beginning : IsBeginning front begun
  pub are_items : AreItems begun items rest ended
  pub sorts : Sorts P ports 1 (records_of items) none_passed log notes passed

-- ---- where it stops

-- the octets that a reader has left and that the two writers hold, before and after
pub record Streams : Type 0 where
  pub unread : Option (List ℕ)
  pub left : Option (List ℕ)
  pub held : Option (List ℕ)
  pub written : Option (List ℕ)
  pub untold : Option (List ℕ)
  pub told : Option (List ℕ)

abbrev pub streams : Option (List ℕ) → Option (List ℕ) → Option (List ℕ) → Option (List ℕ) → Option (List ℕ)
    → Option (List ℕ) → Streams
streams unread left held written untold told = record {
  unread = unread;
  left = left;
  held = held;
  written = written;
  untold = untold;
  told = told;
}

-- Items were read, and then a part; all that their records come to is written.
pub record Stands (P : Printing) (ports : List ℕ) (begun : State) (s : Streams)
    (IsPart : State → ℕ → List ℕ → List ℕ → Type 0) (passed : Counts) : Type 0 where
  pub items : List (Option Record)
  pub state : State
  pub read : List ℕ
  pub part : List ℕ
  pub log : List ℕ
  pub notes : List ℕ
  pub are_items : AreItems begun items read state
  pub sorts : Sorts P ports 1 (records_of items) none_passed log notes passed
  pub consumed : Consumes s.unread s.left (read ++ part)
  pub is_part : IsPart state (length (records_of items)) read part
  pub wrote : Appends s.held s.written log
  pub tells : Appends s.untold s.told notes

-- Behind the beginning and what was read there is no item, or it is where no item is read any more.
abbrev pub IsBad : ℕ → Option (List ℕ) → ℕ → State → ℕ → List ℕ → List ℕ → Type 0
IsBad begin left place state count read part = (place ≡ begin + length read)
    × ((4611686018427387904 ≤ place)
    ⊎ ((0 < length part) × ((rest : List ℕ) → left ≡ Some rest → HasNoItem state (part ++ rest))))

-- less than an item was read
abbrev pub IsLess : State → ℕ → List ℕ → List ℕ → Type 0
IsLess state count read part = HasNoItem state part × (length part ≤ 4294967295)

-- an item was read
abbrev pub IsWholeItem : State → ℕ → List ℕ → List ℕ → Type 0
IsWholeItem state count read part = (r : Option Record) × (t : State) × IsItem state part r t

-- Of two texts for two writers a front of one is written, and not the whole, and the other whole.
abbrev pub StopsWriting : Option (List ℕ) → Option (List ℕ) → List ℕ → Option (List ℕ) → Option (List ℕ)
    → List ℕ → Type 0
StopsWriting held written log untold told notes =
    (WritesFront held written log × Appends untold told notes)
    ⊎ (Appends held written log × WritesFront untold told notes)

-- A write failed: what the records come to that were read is written but for an end, in the log or in what is reported.
pub record WriteFails (P : Printing) (ports : List ℕ) (begun : State) (s : Streams) : Type 0 where
  pub items : List (Option Record)
  pub state : State
  pub read : List ℕ
  pub log : List ℕ
  pub notes : List ℕ
  pub passed : Counts
  pub are_items : AreItems begun items read state
  pub sorts : Sorts P ports 1 (records_of items) none_passed log notes passed
  pub consumed : Consumes s.unread s.left read
  pub stops : StopsWriting s.held s.written log s.untold s.told notes

-- What is done behind the beginning where it stops with a fault. A read fails before an item is whole, and
-- memory may be wanted for what an item becomes.
abbrev pub StopsItems : Printing → List ℕ → State → ℕ → Streams → CaptureFault → Type 0
StopsItems P ports begun begin s (fault.Octet place) = (passed : Counts)
    × Stands P ports begun s (IsBad begin s.left place) passed
StopsItems P ports begun begin s fault.CannotRead = (passed : Counts) × Stands P ports begun s IsLess passed
StopsItems P ports begun begin s fault.CannotWrite = WriteFails P ports begun s
StopsItems P ports begun begin s fault.OutOfMemory = (passed : Counts) × Stands P ports begun s IsWholeItem passed

-- it stops before a record was read, and nothing is written
pub record CannotBegin (s : Streams) (f : CaptureFault) : Type 0 where
  pub reads : ReadsBeginning s.unread s.left f
  pub wrote : Keeps s.held s.written
  pub tells : Keeps s.untold s.told

-- it stops behind the beginning
pub record StopsLater (P : Printing) (ports : List ℕ) (s : Streams) (f : CaptureFault) : Type 0 where
  pub state : State
  pub begin : ℕ
  pub behind : Option (List ℕ)
  pub begun : HasBegun s.unread behind state begin
  pub stops : StopsItems P ports state begin (record s { unread = behind }) f

-- What is done where it stops with a fault.
abbrev pub StopsBy : Printing → List ℕ → Streams → CaptureFault → Type 0
StopsBy P ports s f = CannotBegin s f ⊎ StopsLater P ports s f

-- ---- between the functions

-- the record that was captured
abbrev pub record_from : Captured → Record
record_from c = record { link = c.head.link; moment = c.head.moment; packet = c.packet.now; original = c.head.original }

-- a datagram was printed behind those that are counted, and is written
abbrev pub WritesDatagram : Printing → ℕ → List ℕ → Counts → Counts → Option (List ℕ) → Option (List ℕ) → Type 0
WritesDatagram P moment datagram before after held written =
    (text : List ℕ) × (refused : Bool) × P (before.datagrams + 1) moment datagram text refused
    × (after ≡ one_printed before refused) × Appends held written text

-- it isn't written whole
abbrev pub StopsDatagram : Printing → ℕ → List ℕ → Counts → Option (List ℕ) → Option (List ℕ) → CaptureFault → Type 0
StopsDatagram P moment datagram before held written (fault.Octet place) = ⊥
StopsDatagram P moment datagram before held written fault.CannotRead = ⊥
StopsDatagram P moment datagram before held written fault.CannotWrite =
    (text : List ℕ) × (refused : Bool) × P (before.datagrams + 1) moment datagram text refused
    × WritesFront held written text
StopsDatagram P moment datagram before held written fault.OutOfMemory = Keeps held written

-- record n was sorted, and what it becomes is written
pub record WritesRecord (P : Printing) (ports : List ℕ) (r : Record) (n : ℕ) (before after : Counts)
    (held written untold told : Option (List ℕ)) : Type 0 where
  pub sorted : Sorted
  pub text : List ℕ
  pub refused : Bool
  pub sorts : IsSortedRecord ports r sorted
  pub prints : PrintsRecord P before.datagrams sorted text refused
  pub counts : after ≡ count_of sorted refused before
  pub wrote : Appends held written text
  pub tells : Appends untold told (note_of n sorted)

-- what it becomes, after so many datagrams, isn't written whole
pub record WritesRecordFront (P : Printing) (ports : List ℕ) (r : Record) (n count : ℕ)
    (held written untold told : Option (List ℕ)) : Type 0 where
  pub sorted : Sorted
  pub text : List ℕ
  pub refused : Bool
  pub sorts : IsSortedRecord ports r sorted
  pub prints : PrintsRecord P count sorted text refused
  pub stops : StopsWriting held written text untold told (note_of n sorted)

abbrev pub StopsRecord : Printing → List ℕ → Record → ℕ → ℕ → Option (List ℕ) → Option (List ℕ) → Option (List ℕ)
    → Option (List ℕ) → CaptureFault → Type 0
StopsRecord P ports r n count held written untold told (fault.Octet place) = ⊥
StopsRecord P ports r n count held written untold told fault.CannotRead = ⊥
StopsRecord P ports r n count held written untold told fault.CannotWrite = WritesRecordFront P ports r n count held
    written untold told
StopsRecord P ports r n count held written untold told fault.OutOfMemory = Keeps held written × Keeps untold told

-- an item was taken, of which the next record's number is known
abbrev pub WritesItem : Printing → List ℕ → Option Record → ℕ → ℕ → Counts → Counts → Option (List ℕ)
    → Option (List ℕ) → Option (List ℕ) → Option (List ℕ) → Type 0
WritesItem P ports None n next before after held written untold told = (next ≡ n) × (after ≡ before)
    × Keeps held written × Keeps untold told
WritesItem P ports (Some r) n next before after held written untold told = (next ≡ n + 1)
    × WritesRecord P ports r n before after held written untold told

abbrev pub StopsWrite : Printing → List ℕ → Option Record → ℕ → ℕ → Option (List ℕ) → Option (List ℕ)
    → Option (List ℕ) → Option (List ℕ) → CaptureFault → Type 0
StopsWrite P ports None n count held written untold told f = ⊥
StopsWrite P ports (Some r) n count held written untold told f = StopsRecord P ports r n count held written
    untold told f

-- all items were read
abbrev pub IsEnd : Option (List ℕ) → State → ℕ → List ℕ → List ℕ → Type 0
IsEnd left state count read part = (part ≡ []) × IsAtEnd left
