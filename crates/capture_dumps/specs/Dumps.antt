-- The dumps of a text.
--
-- `HasDumps text dumps`. The lines of the text (`AreLines`) are blocks (`AreBlocks`), each a dump or one
-- line that is passed over (`IsPassedOver`); the octets of the dumps are these, one dump at least.
-- `IsDump`: a line of the offset 0, and lines that go on (`GoOn`): the offset of each writes the number of
-- the octets before it, in hex, in decimal or in octal, all alike (`is_number` in `Base`). `MayEndBefore`:
-- directly behind a dump stands no offset but that of another.
--
-- `IsUnread text fault`. Why a text isn't read: it is blocks without a dump; or behind blocks, and perhaps
-- lines of a dump, a line stands that can't be read (`IsUnreadable`), that goes on no dump (`IsNotBegun`),
-- or behind which the next has another offset than the number of the octets before, in each base
-- (`IsOtherCount`). `StopsAt`: its number.
use Rattle.std.specs.Prelude.{◌≡◌, ◌≢◌, ◌⊎◌, ⊤, ℕ, zero, suc, ◌+◌, ◌-◌, ◌<◌, true, false, List, [], ◌∷◌, ◌++◌, length}
use Rattle.std.specs.Prelude.{map, Option, Some, None}
use Rattle.capture_dumps.specs.Base.{base_number, has, is_number}
use Rattle.capture_dumps.specs.Line.{AreLines, Kind, other, begin, more, words, bad}
use Rattle.capture_dumps.specs.declared.base.Base.{Base}
use Rattle.capture_dumps.specs.declared.base.Bases.{Bases}
use Rattle.capture_dumps.specs.declared.dumps.Dump.{Dump}
use Rattle.capture_dumps.specs.declared.dumps.Reading.{Reading}
use Rattle.capture_dumps.specs.declared.dumps.DumpFault.{DumpFault}
use Rattle.capture_dumps.specs.declared.dumps.DumpFault.TheVariants as faults

-- ---- one dump

-- The offset, in this base, is the number of the octets before.
abbrev pub IsNext : Base → List ℕ → List ℕ → Type 0
IsNext base before digits = is_number (base_number base) digits (length before) ≡ true

-- Behind these octets the lines go on a dump, which has those octets in the end: the offset of each is the
-- number of the octets before it.
abbrev pub GoOn : Base → List ℕ → List Kind → List ℕ → Type 0
GoOn base before [] octets = octets ≡ before
GoOn base before (more digits said ∷ lines) octets = IsNext base before digits × GoOn base (before ++ said) lines octets
GoOn base before (other ∷ lines) octets = ⊥
GoOn base before (begin said ∷ lines) octets = ⊥
GoOn base before (words ∷ lines) octets = ⊥
GoOn base before (bad ∷ lines) octets = ⊥

-- The lines are a dump with offsets in this base: a line with the offset 0, and lines that go on.
abbrev pub IsDumpIn : Base → List Kind → List ℕ → Type 0
IsDumpIn base [] octets = ⊥
IsDumpIn base (begin first ∷ lines) octets = GoOn base first lines octets
IsDumpIn base (other ∷ lines) octets = ⊥
IsDumpIn base (more digits said ∷ lines) octets = ⊥
IsDumpIn base (words ∷ lines) octets = ⊥
IsDumpIn base (bad ∷ lines) octets = ⊥

abbrev pub IsDump : List Kind → List ℕ → Type 0
IsDump lines octets = (base : Base) × IsDumpIn base lines octets

-- ---- the lines of a text

-- A line that is passed over outside of dumps: one without an offset, or without octets behind it.
abbrev pub IsPassedOver : Kind → Type 0
IsPassedOver other = ⊤
IsPassedOver (begin octets) = ⊥
IsPassedOver (more digits octets) = octets ≡ []
IsPassedOver words = ⊤
IsPassedOver bad = ⊥

-- A dump may end before these lines. Behind its last line no offset may stand but one that begins another dump.
abbrev pub MayEndBefore : List Kind → Type 0
MayEndBefore [] = ⊤
MayEndBefore (other ∷ lines) = ⊤
MayEndBefore (begin octets ∷ lines) = ⊤
MayEndBefore (more digits octets ∷ lines) = ⊥
MayEndBefore (words ∷ lines) = ⊥
MayEndBefore (bad ∷ lines) = ⊤

-- The block is a dump, or one line that is passed over; before these lines it stands.
abbrev pub IsBlock : List Kind → List (List ℕ) → List Kind → Type 0
IsBlock block dumps rest =
    ((line : Kind) × (block ≡ line ∷ []) × IsPassedOver line × (dumps ≡ []))
    ⊎ ((octets : List ℕ) × IsDump block octets × (dumps ≡ octets ∷ []) × MayEndBefore rest)

-- The lines are so many blocks, with these dumps in their order, and then the rest.
abbrev pub AreBlocks : ℕ → List Kind → List (List ℕ) → List Kind → Type 0
AreBlocks zero lines dumps rest = (lines ≡ rest) × (dumps ≡ [])
AreBlocks (suc n) lines dumps rest =
    (block : List Kind) × (later : List Kind) × (said : List (List ℕ)) × (others : List (List ℕ))
    × (lines ≡ block ++ later) × IsBlock block said later
    × (dumps ≡ said ++ others) × AreBlocks n later others rest

-- The text has these dumps, one at least.
abbrev pub HasDumps : List ℕ → List (List ℕ) → Type 0
HasDumps text dumps = (lines : List Kind) × (n : ℕ) × AreLines text lines × AreBlocks n lines dumps []
    × (0 < length dumps)

-- ---- where a text can't be read

-- Behind blocks a line stands that can't, of the lines that are left the one of this number, from 1.
pub record StopsAt (Stops : List Kind → ℕ → Type 0) (lines : List Kind) (number : ℕ) : Type 0 where
  pub count : ℕ
  pub dumps : List (List ℕ)
  pub rest : List Kind
  pub at : ℕ
  pub blocks : AreBlocks count lines dumps rest
  pub stops : Stops rest at
  pub is : number ≡ (length lines - length rest) + at

-- its pairs can't be read, or directly behind a dump's lines other words stand behind its offset
abbrev pub IsUnreadable : List Kind → ℕ → Type 0
IsUnreadable rest at =
    ((later : List Kind) × (rest ≡ bad ∷ later) × (at ≡ 1))
    ⊎ ((block : List Kind) × (later : List Kind) × (octets : List ℕ) × (rest ≡ block ++ (words ∷ later))
    × IsDump block octets × (at ≡ length block + 1))

-- it goes on a dump with octets, and there is none
abbrev pub IsNotBegun : List Kind → ℕ → Type 0
IsNotBegun rest at = (digits : List ℕ) × (octets : List ℕ) × (later : List Kind) × (rest ≡ more digits octets ∷ later)
    × (octets ≢ []) × (at ≡ 1)

-- up to it the lines are a dump, and with the next line, whose offset is another number than that of the
-- octets before, they aren't in any base
abbrev pub IsOtherCount : List Kind → ℕ → Type 0
IsOtherCount rest at =
    (block : List Kind) × (digits : List ℕ) × (said : List ℕ) × (later : List Kind) × (octets : List ℕ)
    × (rest ≡ block ++ (more digits said ∷ later))
    × IsDump block octets × ((all : List ℕ) → IsDump (block ++ (more digits said ∷ [])) all → ⊥) × (at ≡ length block)

-- why lines aren't read
abbrev pub StopsIn : List Kind → DumpFault → Type 0
StopsIn lines faults.NoDump = ⊥
StopsIn lines (faults.Unreadable number) = StopsAt IsUnreadable lines number
StopsIn lines (faults.NotBegun number) = StopsAt IsNotBegun lines number
StopsIn lines (faults.OtherCount number) = StopsAt IsOtherCount lines number
StopsIn lines faults.OutOfMemory = ⊤

-- why a text isn't read
abbrev pub IsUnread : List ℕ → DumpFault → Type 0
IsUnread text faults.OutOfMemory = ⊤
IsUnread text faults.NoDump = (lines : List Kind) × (n : ℕ) × AreLines text lines × AreBlocks n lines [] []
IsUnread text (faults.Unreadable number) = (lines : List Kind) × AreLines text lines × StopsAt IsUnreadable lines number
IsUnread text (faults.NotBegun number) = (lines : List Kind) × AreLines text lines × StopsAt IsNotBegun lines number
IsUnread text (faults.OtherCount number) = (lines : List Kind) × AreLines text lines × StopsAt IsOtherCount lines number

-- ---- between the functions

abbrev pub as_list : Option Dump → List (List ℕ)
as_list None = []
as_list (Some dump) = dump.octets.items ∷ []

-- the dumps that have ended
abbrev pub ended : Reading → List (List ℕ)
ended reading = map (λ octets. octets.items) reading.dumps.items

-- The lines are a dump with these octets in each of these bases, one at least, and in no other.
pub record IsOpenIn (bases : Bases) (octets : List ℕ) (lines : List Kind) : Type 0 where
  pub some : (base : Base) × (has bases base ≡ true)
  pub fits : (base : Base) → has bases base ≡ true → IsDumpIn base lines octets
  pub only : (base : Base) → has bases base ≡ false → (all : List ℕ) → IsDumpIn base lines all → ⊥

abbrev pub IsOpen : Option Dump → List Kind → Type 0
IsOpen None lines = lines ≡ []
IsOpen (Some dump) lines = IsOpenIn dump.bases dump.octets.items lines

-- The lines were read up to the rest: blocks, and those of the dump that may go on.
pub record ReadUp (lines rest : List Kind) (reading : Reading) : Type 0 where
  pub count : ℕ
  pub block : List Kind
  pub blocks : AreBlocks count lines (ended reading) (block ++ rest)
  pub is_open : IsOpen reading.going block

-- behind the line
abbrev pub Follows : Reading → Kind → Reading → Type 0
Follows before line after = (lines rest : List Kind) → ReadUp lines (line ∷ rest) before → ReadUp lines rest after

-- At the line it stops, before which so many lines stand.
abbrev pub StopsAfter : ℕ → Reading → Kind → DumpFault → Type 0
StopsAfter place before line fault =
    (lines rest : List Kind) → length lines ≡ place + length (line ∷ rest) → ReadUp lines (line ∷ rest) before
    → StopsIn lines fault
