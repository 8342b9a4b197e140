-- The texts of saved clocks. Version 2 is the line `snmp-clocks 2`, and then for each engine a line of its
-- identifier in lower-case hex, its boots, its time and the moment at which they were seen, the engines in
-- the order of their octets. Version 1 is the line `snmp-clocks 1`, and the same lines without the moment.
use Rattle.std.specs.Prelude.{◌≡◌, ◌⊎◌, ℕ, ◌<◌, ◌^◌, suc, List, [], ◌∷◌, ◌++◌, codes, decimal}
use Rattle.std.specs.List.{AllByRecursion}
use Rattle.std.specs.List.Sorted.{IsStrictlySortedBy}
use Rattle.std.specs.Map.{keys_of}
use Rattle.hex.specs.Hex.{encode_lower}
use Rattle.engine_clock.specs.Engines.{engine_cmp, IsEngine}
use Rattle.engine_clock.specs.Pairs.{IsPair}
use Rattle.engine_clock.specs.Marks.{SeenPair, Marks}
use Rattle.engine_clock.specs.Listings.{AllFit, listing_by, BeginsWellBy, Lists}
use Rattle.engine_clock.specs.declared.saved.Form.{Form}
use Rattle.engine_clock.specs.declared.saved.Form.TheVariants.{WithMoments, ReadAt}

-- an engine with its mark
abbrev pub Entry : Type 0
Entry = List ℕ × SeenPair

-- all are within their bounds
pub record IsEntry (e : Entry) : Type 0 where
  pub engine : IsEngine e.0
  pub pair : IsPair e.1.pair
  pub seen : e.1.seen < 2 ^ 64

-- The engines, the pairs and the moments are within their bounds.
abbrev pub AreMarks : Marks → Type 0
AreMarks marks = AllFit IsEntry marks

-- ---- version 2

-- the engine in lower-case hex, its boots, its time and its moment, in decimals without leading zeros
abbrev pub line : Entry → List ℕ
line e = encode_lower e.0 ++ 32 ∷ decimal e.1.pair.boots ++ 32 ∷ decimal e.1.pair.time ++ 32
    ∷ decimal e.1.seen ++ 10 ∷ []

abbrev pub heading : List ℕ
heading = codes "snmp-clocks 2\n"

-- the saved text of a map
abbrev pub listing : Marks → List ℕ
listing marks = listing_by heading line marks

-- ---- version 1

-- the same without the moment
abbrev pub old_line : Entry → List ℕ
old_line e = encode_lower e.0 ++ 32 ∷ decimal e.1.pair.boots ++ 32 ∷ decimal e.1.pair.time ++ 10 ∷ []

abbrev pub old_heading : List ℕ
old_heading = codes "snmp-clocks 1\n"

-- within the bounds, and seen at this moment
abbrev pub IsSeenAt : ℕ → Entry → Type 0
IsSeenAt now e = IsEntry e × (e.1.seen ≡ now)

-- ---- either

-- the text is the listing of the marks in version 2; or in version 1, where each of them is seen at the moment `now`
abbrev pub Saves : ℕ → List ℕ → Marks → Type 0
Saves now text marks = Lists heading line IsEntry text marks ⊎ Lists old_heading old_line (IsSeenAt now) text marks

-- The first n lines of the text are as they have to be in one of the versions.
abbrev pub BeginsWell : ℕ → List ℕ → ℕ → Type 0
BeginsWell now text n = BeginsWellBy heading line IsEntry text n
    ⊎ BeginsWellBy old_heading old_line (IsSeenAt now) text n

-- The text saves no map, and n is the number, counted from 1, of its first line that is not as it has to be.
pub record IsFirstFault (now : ℕ) (text : List ℕ) (n : ℕ) : Type 0 where
  pub before : (k : ℕ) × (suc k ≡ n) × BeginsWell now text k
  pub at : ¬ (BeginsWell now text n)
  pub whole : (marks : Marks) → ¬ (Saves now text marks)

-- ---- what the code goes by

abbrev pub heading_in : Form → List ℕ
heading_in WithMoments = heading
heading_in (ReadAt now) = old_heading

abbrev pub line_in : Form → Entry → List ℕ
line_in WithMoments e = line e
line_in (ReadAt now) e = old_line e

abbrev pub FitsIn : Form → Entry → Type 0
FitsIn WithMoments e = IsEntry e
FitsIn (ReadAt now) e = IsSeenAt now e

-- the entries of a map rise, and are within their bounds
pub record AreHeld (es : List Entry) : Type 0 where
  pub rising : IsStrictlySortedBy engine_cmp (keys_of es)
  pub fits : AllByRecursion IsEntry es
