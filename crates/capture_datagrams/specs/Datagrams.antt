-- What `snmpsec datagrams`, `show --from` and `open --from` do with a capture.
--
-- `Tells P ports name streams status`, `TellsNot`. What `datagrams` has read and written where it ends,
-- with P for the line of a datagram: the log of the capture (`IsLogOf`), what is reported and the line of
-- counts; or the log as far as it is one, and the line for the first octet that isn't. And where it stops
-- with a fault: within the capture, or a front of that last line is written. `AskPorts`: the ports that
-- words ask for.
use Rattle.std.specs.Prelude.{◌≡◌, ◌⊎◌, ⊤, ℕ, ◌<◌, ◌^◌, Bool, if◌then◌else◌, map, List, [], ◌∷◌, ◌++◌, codes, decimal}
use Rattle.std.specs.Prelude.{Option, IfSome}
use Rattle.std.specs.List.{All}
use Rattle.std.specs.Io.KnownBytes.{Appends, Keeps}
use Rattle.snmpsec_io.specs.Transfer.{WritesFront}
use Rattle.capture_files.specs.Tally.{Counts, IsPassedWords}
use Rattle.capture_files.specs.Datagrams.{IsLogOf, Printing, Streams, StopsBy}
use Rattle.capture_files.specs.declared.fault.CaptureFault.TheVariants as capture
use Rattle.capture_datagrams.specs.declared.datagrams.Unread.{Unread}
use Rattle.capture_datagrams.specs.declared.datagrams.Unread.TheVariants as unread
use Rattle.capture_datagrams.specs.declared.datagrams.PortsFault.{PortsFault}
use Rattle.capture_datagrams.specs.declared.datagrams.PortsFault.TheVariants as no_ports

-- ---- the ports

-- each word is the decimal of a port
abbrev pub AreDecimals : List (List ℕ) → List ℕ → Type 0
AreDecimals words ports = (words ≡ map decimal ports) × All (λ port. port < 2 ^ 16) ports

-- the ports that the words ask for, where 161 and 162 are asked for by no word
abbrev pub AskPorts : List (List ℕ) → List ℕ → Type 0
AskPorts [] ports = ports ≡ 161 ∷ 162 ∷ []
AskPorts (word ∷ words) ports = AreDecimals (word ∷ words) ports

-- the word is no port
abbrev pub IsNoPort : List ℕ → Type 0
IsNoPort word = (port : ℕ) → port < 2 ^ 16 → word ≡ decimal port → ⊥

-- the words have a first that is no port, and this is it
pub record IsFirstNoPort (words : List (List ℕ)) (word : List ℕ) : Type 0 where
  pub before : List ℕ
  pub after : List (List ℕ)
  pub parts : words ≡ map decimal before ++ word ∷ after
  pub ports : All (λ port. port < 2 ^ 16) before
  pub none : IsNoPort word

-- why there are no ports
abbrev pub TellsNoPorts : List (List ℕ) → PortsFault → Type 0
TellsNoPorts words (no_ports.NoPort word) = IsFirstNoPort words word.now
TellsNoPorts words no_ports.OutOfMemory = ⊤

-- ---- the last lines

-- what was passed over, by reason; no line where nothing was
abbrev pub line_of : List ℕ → List ℕ
line_of [] = []
line_of (x ∷ xs) = codes "snmpsec: passed over: " ++ ((x ∷ xs) ++ codes "\n")

abbrev pub IsPassedLine : Counts → List ℕ → Type 0
IsPassedLine c line = (words : List ℕ) × IsPassedWords c words × (line ≡ line_of words)

-- the first octet of the file at which it is no capture
abbrev pub refused_line : List ℕ → ℕ → List ℕ
refused_line name place = codes "refused datagrams " ++ (name ++ (codes " octet " ++ (decimal place ++ codes "\n")))

-- ---- what is written

-- 1 where what was printed of a datagram tells a refusal
abbrev pub status_of : Bool → ℕ
status_of refused = if refused then 1 else 0

-- The capture was read to its end, and the log of its datagrams is written; the line for what was passed over
-- is to be told.
pub record IsWhole (P : Printing) (ports : List ℕ) (s : Streams) (passed : Counts) : Type 0 where
  pub log_is : IfSome s.unread
      (λ capture. (lines : List ℕ) × (tells : List ℕ) × IsLogOf P ports capture lines tells passed
      × Appends s.held s.written lines × Appends s.untold s.told tells)

-- What results from a capture is written, as far as it is one. Then these lines are due, the one in the log and
-- the other beside it.
abbrev pub Leaves : Printing → List ℕ → List ℕ → Streams → ℕ → List ℕ → List ℕ → Type 0
Leaves P ports name s status in_log beside =
    ((passed : Counts) × (status ≡ status_of passed.refused) × IsWhole P ports s passed × (in_log ≡ [])
    × IsPassedLine passed beside)
    ⊎ ((status ≡ 1) × (place : ℕ) × StopsBy P ports s (capture.Octet place) × (in_log ≡ refused_line name place)
    × (beside ≡ []))

-- What results from a capture is written, as far as it is one, and no line behind it.
pub record LeavesUntold (P : Printing) (ports : List ℕ) (s : Streams) : Type 0 where
  pub written : Option (List ℕ)
  pub told : Option (List ℕ)
  pub leaves : ((passed : Counts) × IsWhole P ports (record s { written = written; told = told }) passed)
      ⊎ ((place : ℕ) × StopsBy P ports (record s { written = written; told = told }) (capture.Octet place))
  pub wrote : Keeps written s.written
  pub tells : Keeps told s.told

-- What results from a capture is written as far as it is one, of the last line in the log what `Writes` says, and
-- of that beside it what `TellsLine` says.
pub record Ends (P : Printing) (ports name : List ℕ) (s : Streams)
    (Writes TellsLine : Option (List ℕ) → Option (List ℕ) → List ℕ → Type 0) (status : ℕ) : Type 0 where
  pub written : Option (List ℕ)
  pub told : Option (List ℕ)
  pub in_log : List ℕ
  pub beside : List ℕ
  pub leaves : Leaves P ports name (record s { written = written; told = told }) status in_log beside
  pub wrote : Writes written s.written in_log
  pub tells : TellsLine told s.told beside

-- all of them
abbrev pub Tells : Printing → List ℕ → List ℕ → Streams → ℕ → Type 0
Tells P ports name s status = Ends P ports name s Appends Appends status

-- What is done where it stops with a fault: it stops within the capture, or only a front of the last line is
-- written, or none is made.
abbrev pub TellsNot : Printing → List ℕ → List ℕ → Streams → Unread → Type 0
TellsNot P ports name s unread.CannotRead = StopsBy P ports s capture.CannotRead
TellsNot P ports name s unread.CannotWrite =
    StopsBy P ports s capture.CannotWrite
    ⊎ ((status : ℕ) × (Ends P ports name s Appends WritesFront status
    ⊎ Ends P ports name s WritesFront Appends status))
TellsNot P ports name s unread.OutOfMemory = StopsBy P ports s capture.OutOfMemory ⊎ LeavesUntold P ports s

-- ---- between the functions

-- where a last line isn't written
abbrev pub LosesLine : Option (List ℕ) → Option (List ℕ) → List ℕ → Unread → Type 0
LosesLine old new line unread.CannotRead = ⊥
LosesLine old new line unread.CannotWrite = WritesFront old new line
LosesLine old new line unread.OutOfMemory = Keeps old new

-- the line for what was passed over is written, or isn't
abbrev pub TellsPassed : Counts → Option (List ℕ) → Option (List ℕ) → Type 0
TellsPassed c old new = (line : List ℕ) × IsPassedLine c line × Appends old new line

abbrev pub LosesPassed : Counts → Option (List ℕ) → Option (List ℕ) → Unread → Type 0
LosesPassed c old new unread.CannotRead = ⊥
LosesPassed c old new unread.CannotWrite = (line : List ℕ) × IsPassedLine c line × WritesFront old new line
LosesPassed c old new unread.OutOfMemory = Keeps old new
