-- A text of hex: a pair of digits for each octet, and what may stand between and before pairs.
--
-- `IsHexText text octets`. The text is parts, one behind the other (`AreParts`), which write these octets,
-- one at least. A part (`IsPart`) is a gap, one octet that may stand between pairs or a backslash and a
-- line end (`IsGap`), or a pair of digits of either case behind nothing, `0x`, `0X` or `\x` (`IsPair`).
--
-- `IsFaultAt text line column`. Behind parts, at this place (`IsBehind`), begins no part (`BeginsNone`), or
-- the text ends there without an octet. `BeginsHex`: the text begins with parts that write an octet; memory
-- is wanted there alone (`IsNoText`).
use Rattle.std.specs.Prelude.{◌≡◌, ◌⊎◌, ℕ, zero, suc, ◌+◌, ◌/◌, ◌%◌, ◌<◌, ◌==◌, ◌||◌, not, Bool, true, List, [], ◌∷◌}
use Rattle.std.specs.Prelude.{◌++◌, length, Some}
use Rattle.std.specs.List.{count_by, suffix_len}
use Rattle.hex.specs.Hex.{hex_digit_value}
use Rattle.capture_dumps.specs.declared.text.HexFault.{HexFault}
use Rattle.capture_dumps.specs.declared.text.HexFault.TheVariants as fault

-- ---- the parts

-- a blank, a tab, one of a line end, or one of : , - "
abbrev pub is_between : ℕ → Bool
is_between c = (c == 32) || (c == 9) || (c == 10) || (c == 13) || (c == 58) || (c == 44) || (c == 45) || (c == 34)

-- what stands between pairs: one of these, or a backslash and a line end
abbrev pub IsGap : List ℕ → Type 0
IsGap gap = ((c : ℕ) × (gap ≡ c ∷ []) × (is_between c ≡ true)) ⊎ ((gap ≡ 92 ∷ 10 ∷ []) ⊎ (gap ≡ 92 ∷ 13 ∷ 10 ∷ []))

-- what may stand before a pair: nothing, 0x, 0X or \x
abbrev pub IsPrefix : List ℕ → Type 0
IsPrefix prefix = (prefix ≡ []) ⊎ ((prefix ≡ 48 ∷ 120 ∷ []) ⊎ ((prefix ≡ 48 ∷ 88 ∷ []) ⊎ (prefix ≡ 92 ∷ 120 ∷ [])))

-- two digits of either case, the higher first, which write an octet
pub record IsPair (pair : List ℕ) (octet : ℕ) : Type 0 where
  pub prefix : List ℕ
  pub high : ℕ
  pub low : ℕ
  pub may_stand : IsPrefix prefix
  pub parts : pair ≡ prefix ++ high ∷ low ∷ []
  pub high_is : hex_digit_value high ≡ Some (octet / 16)
  pub low_is : hex_digit_value low ≡ Some (octet % 16)

-- a part of a text, and the octets that it writes
abbrev pub IsPart : List ℕ → List ℕ → Type 0
IsPart part octets = (IsGap part × (octets ≡ [])) ⊎ ((octet : ℕ) × IsPair part octet × (octets ≡ octet ∷ []))

-- ---- texts

-- the text is so many parts, one behind the other, which write these octets
abbrev pub AreParts : ℕ → List ℕ → List ℕ → Type 0
AreParts zero text octets = (text ≡ []) × (octets ≡ [])
AreParts (suc n) text octets =
    (part : List ℕ) × (said : List ℕ) × (rest : List ℕ) × (more : List ℕ) × IsPart part said × (text ≡ part ++ rest)
    × (octets ≡ said ++ more) × AreParts n rest more

-- the text writes these octets, one at least
abbrev pub IsHexText : List ℕ → List ℕ → Type 0
IsHexText text octets = (n : ℕ) × AreParts n text octets × (0 < length octets)

-- ---- what is no text of hex

-- the text begins with no part
abbrev pub BeginsNone : List ℕ → Type 0
BeginsNone text = (part said rest : List ℕ) → IsPart part said → text ≡ part ++ rest → ⊥

-- the octet is no line feed
abbrev pub goes_on : ℕ → Bool
goes_on c = not (c == 10)

-- the place behind a text: how many line feeds it has, and how many octets stand behind the last, each from 1
pub record IsBehind (text : List ℕ) (line column : ℕ) : Type 0 where
  pub line_is : line ≡ count_by (λ c. c == 10) text + 1
  pub column_is : column ≡ suffix_len goes_on text + 1

-- Behind parts, at this place, the text has none, or it ends there and no octet is written.
pub record IsFaultAt (text : List ℕ) (line column : ℕ) : Type 0 where
  pub number : ℕ
  pub front : List ℕ
  pub rest : List ℕ
  pub octets : List ℕ
  pub are : AreParts number front octets
  pub parts : text ≡ front ++ rest
  pub none : BeginsNone rest
  pub empty : rest ≡ [] → octets ≡ []
  pub behind : IsBehind front line column

-- the text begins with parts that write an octet
abbrev pub BeginsHex : List ℕ → Type 0
BeginsHex text = (n : ℕ) × (front : List ℕ) × (rest : List ℕ) × (octets : List ℕ) × AreParts n front octets
    × (text ≡ front ++ rest) × (0 < length octets)

-- Why a text isn't read. Memory is wanted for octets alone.
abbrev pub IsNoText : List ℕ → HexFault → Type 0
IsNoText text (fault.At line column) = IsFaultAt text line column
IsNoText text fault.OutOfMemory = BeginsHex text

-- ---- between the functions

abbrev pub IsFaultBehind : List ℕ → HexFault → Type 0
IsFaultBehind front (fault.At line column) = IsBehind front line column
IsFaultBehind front fault.OutOfMemory = ⊥
