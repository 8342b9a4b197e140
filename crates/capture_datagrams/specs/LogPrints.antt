-- What is printed of the datagrams of a log.
--
-- `TellsLog P name streams status`: the lines of the log are read to its end, and what is printed of their datagrams
-- is written; or a line that is none is reported by its number, in what is printed and beside it. `StopsLog`: what is
-- done where it stops with a fault.
use Rattle.std.specs.Prelude.{◌≡◌, ◌⊎◌, ℕ, ◌+◌, ◌-◌, ◌^◌, ◌≤◌, ◌||◌, Bool, false, List, [], ◌∷◌, ◌++◌, length, codes}
use Rattle.std.specs.Prelude.{Option, decimal}
use Rattle.std.specs.Io.KnownBytes.{Appends, Consumes, IsAtEnd, Keeps}
use Rattle.snmp_ber.specs.Splits.{Lacks}
use Rattle.snmpsec_io.specs.Transfer.{WritesFront}
use Rattle.snmpsec_replay.specs.Log.{LogEntry, IsLine}
use Rattle.snmpsec_replay.specs.Entries.{IsNoEntry}
use Rattle.snmpsec_replay.specs.declared.log.TheConstants.{LINE_LIMIT}
use Rattle.capture_files.specs.Datagrams.{Printing, Streams}
use Rattle.capture_datagrams.specs.Datagrams.{status_of}
use Rattle.capture_datagrams.specs.Dumped.{refused_row}
use Rattle.capture_datagrams.specs.declared.datagrams.Unread.{Unread}
use Rattle.capture_datagrams.specs.declared.datagrams.Unread.TheVariants as unread

-- the text is a line for each entry, with its line feed
abbrev pub AreEntries : List LogEntry → List ℕ → Type 0
AreEntries [] text = text ≡ []
AreEntries (e ∷ es) text = (line : List ℕ) × (rest : List ℕ) × IsLine line e × (length line ≤ LINE_LIMIT)
    × (text ≡ line ++ 10 ∷ rest) × AreEntries es rest

-- what is printed of the datagrams of these entries, of which the first has the number n, and whether any of it
-- tells a refusal
abbrev pub PrintsEntries : Printing → ℕ → List LogEntry → List ℕ → Bool → Type 0
PrintsEntries P n [] text refused = (text ≡ []) × (refused ≡ false)
PrintsEntries P n (e ∷ es) text refused =
    (first : List ℕ) × (tells : Bool) × (later : List ℕ) × (tell : Bool) × P n e.moment e.datagram first tells
    × PrintsEntries P (n + 1) es later tell
    × (text ≡ first ++ later) × (refused ≡ (tells || tell))

-- Lines of a log were read and then a part, and this is printed of the datagrams of the lines.
pub record Reads (P : Printing) (unread left : Option (List ℕ)) (IsPart : ℕ → List ℕ → Type 0) (text : List ℕ)
    (refused : Bool) : Type 0 where
  pub entries : List LogEntry
  pub read : List ℕ
  pub part : List ℕ
  pub are_entries : AreEntries entries read
  pub consumed : Consumes unread left (read ++ part)
  pub is_part : IsPart (length entries) part
  pub prints : PrintsEntries P 1 entries text refused

-- that is written, and nothing reported beside it
pub record Stands (P : Printing) (s : Streams) (IsPart : ℕ → List ℕ → Type 0) (refused : Bool) : Type 0 where
  pub text : List ℕ
  pub reads : Reads P s.unread s.left IsPart text refused
  pub wrote : Appends s.held s.written text
  pub tells : Keeps s.untold s.told

-- nothing follows the lines, or they are as many as can be numbered
abbrev pub IsEnd : Option (List ℕ) → ℕ → List ℕ → Type 0
IsEnd left count part = (part ≡ []) × (IsAtEnd left ⊎ (2 ^ 64 - 2 ≤ count))

-- ---- a line that is none

-- what is reported beside its number: in words, what is wrong with it
abbrev pub IsLineNote : ℕ → List ℕ → Type 0
IsLineNote n note = (words : List ℕ)
    × (note ≡ codes "snmpsec: line " ++ (decimal n ++ (codes ": " ++ (words ++ codes "\n"))))

-- Behind lines of a log comes what is none. What is printed of the lines and then that line's number is done which
-- `Writes` says, and of the note on it what `TellsNote` says.
pub record RefusesLine (P : Printing) (name : List ℕ) (s : Streams)
    (Writes TellsNote : Option (List ℕ) → Option (List ℕ) → List ℕ → Type 0) : Type 0 where
  pub count : ℕ
  pub text : List ℕ
  pub refused : Bool
  pub note : List ℕ
  pub reads : Reads P s.unread s.left (λ k part. (k ≡ count) × IsNoEntry s.left part) text refused
  pub is_note : IsLineNote (count + 1) note
  pub wrote : Writes s.held s.written (text ++ refused_row name (count + 1))
  pub tells : TellsNote s.untold s.told note

-- ---- what is written

abbrev pub TellsLog : Printing → List ℕ → Streams → ℕ → Type 0
TellsLog P name s status =
    ((refused : Bool) × Stands P s (IsEnd s.left) refused × (status ≡ status_of refused))
    ⊎ ((status ≡ 1) × RefusesLine P name s Appends Appends)

-- less than what is printed of the lines is written
pub record WritesLess (P : Printing) (s : Streams) : Type 0 where
  pub text : List ℕ
  pub refused : Bool
  pub reads : Reads P s.unread s.left (λ count part. part ≡ []) text refused
  pub wrote : WritesFront s.held s.written text
  pub tells : Keeps s.untold s.told

-- Where a read fails, what was read after the lines has no line feed. Memory may be wanted for a line that was read
-- behind them.
abbrev pub StopsLog : Printing → List ℕ → Streams → Unread → Type 0
StopsLog P name s unread.CannotRead = (refused : Bool) × Stands P s (λ count part. Lacks 10 part) refused
StopsLog P name s unread.CannotWrite = WritesLess P s
    ⊎ (RefusesLine P name s WritesFront (λ old new note. Keeps old new)
    ⊎ RefusesLine P name s Appends WritesFront)
StopsLog P name s unread.OutOfMemory =
    (behind : Option (List ℕ)) × (refused : Bool)
    × Stands P (record s { left = behind }) (λ count part. part ≡ []) refused

-- ---- between the functions

-- a datagram is printed, and what is printed written
abbrev pub WritesEntry : Printing → ℕ → LogEntry → Option (List ℕ) → Option (List ℕ) → Bool → Type 0
WritesEntry P n e held written refused =
    (text : List ℕ) × P n e.moment e.datagram text refused × Appends held written text

abbrev pub StopsEntry : Printing → ℕ → LogEntry → Option (List ℕ) → Option (List ℕ) → Unread → Type 0
StopsEntry P n e held written unread.CannotRead = ⊥
StopsEntry P n e held written unread.CannotWrite =
    (text : List ℕ) × (refused : Bool) × P n e.moment e.datagram text refused × WritesFront held written text
StopsEntry P n e held written unread.OutOfMemory = Keeps held written

-- the lines for a line that is none are written
abbrev pub WritesRefusal : List ℕ → ℕ → Option (List ℕ) → Option (List ℕ) → Option (List ℕ) → Option (List ℕ)
    → ℕ → Type 0
WritesRefusal name n held written untold told status = (status ≡ 1) × (note : List ℕ) × IsLineNote n note
    × Appends held written (refused_row name n) × Appends untold told note

abbrev pub StopsRefusal : List ℕ → ℕ → Option (List ℕ) → Option (List ℕ) → Option (List ℕ) → Option (List ℕ)
    → Unread → Type 0
StopsRefusal name n held written untold told unread.CannotRead = ⊥
StopsRefusal name n held written untold told unread.CannotWrite = (note : List ℕ) × IsLineNote n note
    × ((WritesFront held written (refused_row name n) × Keeps untold told)
    ⊎ (Appends held written (refused_row name n) × WritesFront untold told note))
StopsRefusal name n held written untold told unread.OutOfMemory = Keeps held written × Keeps untold told
