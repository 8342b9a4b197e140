-- What `snmpsec datagrams`, `show --from` and `open --from` do with pasted hex and dumps.
use Rattle.std.specs.Prelude.{◌≡◌, ◌⊎◌, ⊤, ℕ, ◌≤◌, Bool, List, [], ◌++◌, length, codes, decimal}
use Rattle.std.specs.Io.KnownBytes.{Appends, Consumes, IsAtEnd, Keeps}
use Rattle.snmpsec_io.specs.Transfer.{WritesFront}
use Rattle.capture_files.specs.Datagrams.{Printing, Streams}
use Rattle.capture_dumps.specs.Text.{IsHexText, IsFaultAt}
use Rattle.capture_dumps.specs.Dump.{HasDumpOn, HasNoDump}
use Rattle.capture_datagrams.specs.Datagrams.{status_of}
use Rattle.capture_datagrams.specs.Dumped.{IsDumpsOf}
use Rattle.capture_datagrams.specs.declared.texts.TextForm.{TextForm}
use Rattle.capture_datagrams.specs.declared.texts.TextForm.TheVariants.{Hex, Dump, Packets, Found}
use Rattle.capture_datagrams.specs.declared.datagrams.Unread.{Unread}
use Rattle.capture_datagrams.specs.declared.datagrams.Unread.TheVariants as unread

-- the first place of the file at which it is no hex
abbrev pub refused_place : List ℕ → ℕ → ℕ → List ℕ
refused_place name line column = codes "refused datagrams "
    ++ (name ++ (codes " line " ++ (decimal line ++ (codes " column " ++ (decimal column ++ codes "\n")))))

-- what is printed of a text of hex: that of its octets as the one datagram, or the line of the place at which
-- it is no hex, with status 1
abbrev pub IsHexOf : Printing → ℕ → List ℕ → List ℕ → List ℕ → ℕ → Type 0
IsHexOf P moment name text line status =
    ((octets : List ℕ) × IsHexText text octets × (refused : Bool) × P 1 moment octets line refused
    × (status ≡ status_of refused))
    ⊎ ((status ≡ 1) × (row : ℕ) × (column : ℕ) × IsFaultAt text row column × (line ≡ refused_place name row column))

-- A text is read as dumps: that is asked for, or it has a dump's first line where nothing is.
abbrev pub IsDumpText : TextForm → List ℕ → Type 0
IsDumpText Hex text = ⊥
IsDumpText Dump text = ⊤
IsDumpText (Packets ports) text = ⊤
IsDumpText Found text = (row : ℕ) × HasDumpOn text row

-- it is read as hex: that is asked for, or it has no dump's first line where nothing is
abbrev pub IsPlainText : TextForm → List ℕ → Type 0
IsPlainText Hex text = ⊤
IsPlainText Dump text = ⊥
IsPlainText (Packets ports) text = ⊥
IsPlainText Found text = HasNoDump text

-- what is printed of a text that is read so, what is reported beside it, and the status
abbrev pub IsTextOf : Printing → TextForm → ℕ → List ℕ → List ℕ → List ℕ → List ℕ → ℕ → Type 0
IsTextOf P form moment name text line note status =
    (IsDumpText form text × IsDumpsOf P form moment name text line note status)
    ⊎ (IsPlainText form text × (note ≡ []) × IsHexOf P moment name text line status)

-- The text was read to its end, and of what is printed of it and told beside that is done which `Ends` says.
pub record IsText (P : Printing) (form : TextForm) (moment : ℕ) (name : List ℕ) (s : Streams)
    (Ends : Streams → List ℕ → List ℕ → Type 0) (status : ℕ) : Type 0 where
  pub text : List ℕ
  pub line : List ℕ
  pub note : List ℕ
  pub consumed : Consumes s.unread s.left text
  pub end : IsAtEnd s.left
  pub short : length text ≤ 16777216
  pub is_line : IsTextOf P form moment name text line note status
  pub ends : Ends s line note

abbrev pub WritesBoth : Streams → List ℕ → List ℕ → Type 0
WritesBoth s line note = Appends s.held s.written line × Appends s.untold s.told note

-- what is printed is written but for an end, or what is reported beside it
abbrev pub WritesPart : Streams → List ℕ → List ℕ → Type 0
WritesPart s line note = (WritesFront s.held s.written line × Keeps s.untold s.told)
    ⊎ (Appends s.held s.written line × WritesFront s.untold s.told note)

abbrev pub TellsText : Printing → TextForm → ℕ → List ℕ → Streams → ℕ → Type 0
TellsText P form moment name s status = IsText P form moment name s WritesBoth status

abbrev pub WritesNothing : Streams → Type 0
WritesNothing s = Keeps s.held s.written × Keeps s.untold s.told

-- where it stops, nothing or a front of that is written
abbrev pub StopsText : Printing → TextForm → ℕ → List ℕ → Streams → Unread → Type 0
StopsText P form moment name s unread.CannotRead = WritesNothing s
StopsText P form moment name s unread.CannotWrite = (status : ℕ) × IsText P form moment name s WritesPart status
StopsText P form moment name s unread.OutOfMemory = WritesNothing s
