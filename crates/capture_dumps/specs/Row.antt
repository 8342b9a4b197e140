-- The octets of a dump's line, behind its offset.
--
-- `IsRow text octets`. The octets of the fewest pairs behind which a column stands that shows them
-- (`IsShown`), or, where there is no such, of all pairs, behind which only blanks stand (`IsBare`).
-- `has_any_column` (`Column`): two blanks at least, and then the octets as text, as they are or between
-- marks; blanks at the end may be missing.
use Rattle.std.specs.Prelude.{◌≡◌, ◌⊎◌, ℕ, zero, suc, ◌<◌, true, List, [], ◌∷◌, ◌++◌, drop, Option, Some, None}
use Rattle.hex.specs.Hex.{hex_digit_value}
use Rattle.capture_dumps.specs.Dump.{blanks}
use Rattle.capture_dumps.specs.Part.{joined_digits}
use Rattle.capture_dumps.specs.Column.{are_blanks, has_any_column}

-- an octet, and the text behind the two digits that write it
abbrev pub Read : Type 0
Read = ℕ × List ℕ

abbrev pub and_behind : List ℕ → Option ℕ → Option Read
and_behind rest None = None
and_behind rest (Some octet) = Some (octet, rest)

-- the octet that the text begins with
abbrev pub first_pair : List ℕ → Option Read
first_pair [] = None
first_pair (high ∷ []) = None
first_pair (high ∷ low ∷ rest) = and_behind rest (joined_digits (hex_digit_value high) (hex_digit_value low))

-- the octet that the text begins with, perhaps behind blanks
abbrev pub next_pair : List ℕ → Option Read
next_pair text = first_pair (drop (blanks text) text)

-- octets, and the text behind their pairs
abbrev pub Reads : Type 0
Reads = List ℕ × List ℕ

abbrev pub one_more : List ℕ → Option Read → Option Reads
one_more octets None = None
one_more octets (Some next) = Some (octets ++ next.0 ∷ [], next.1)

abbrev pub goes_on : Option Reads → Option Reads
goes_on None = None
goes_on (Some reads) = one_more reads.0 (next_pair reads.1)

-- the octets of so many pairs at the beginning of the text, and what follows them
abbrev pub reads : ℕ → List ℕ → Option Reads
reads zero text = Some ([], text)
reads (suc n) text = goes_on (reads n text)

-- The text begins with n pairs, which write these octets, and behind them stands a column that shows these.
abbrev pub IsShownBehind : ℕ → List ℕ → List ℕ → Type 0
IsShownBehind n text octets = (rest : List ℕ) × (0 < n) × (reads n text ≡ Some (octets, rest))
    × (has_any_column octets rest ≡ true)

-- These are the octets that a column shows: of the fewest pairs behind which one stands.
pub record IsShown (text octets : List ℕ) : Type 0 where
  pub count : ℕ
  pub shown : IsShownBehind count text octets
  pub first : (n : ℕ) (others : List ℕ) → n < count → IsShownBehind n text others → ⊥

abbrev pub HasNoColumn : List ℕ → Type 0
HasNoColumn text = (n : ℕ) (octets : List ℕ) → IsShownBehind n text octets → ⊥

-- The text is pairs, one at least, which write these octets, and blanks.
abbrev pub IsBare : List ℕ → List ℕ → Type 0
IsBare text octets = (count : ℕ) × (rest : List ℕ) × (0 < count) × (reads count text ≡ Some (octets, rest))
    × (are_blanks rest ≡ true)

-- These are the octets of the text: those that its column shows, or all that it is where it has no column.
abbrev pub IsRow : List ℕ → List ℕ → Type 0
IsRow text octets = IsShown text octets ⊎ (HasNoColumn text × IsBare text octets)

abbrev pub IsNoRow : List ℕ → Type 0
IsNoRow text = HasNoColumn text × ((octets : List ℕ) → IsBare text octets → ⊥)
