-- A dump: lines of octets with an offset before those of each line. Its first line has the offset 0.
use Rattle.std.specs.Prelude.{◌≡◌, ◌⊎◌, ℕ, ◌+◌, ◌-◌, ◌<◌, ◌≤◌, ◌==◌, ◌&&◌, ◌||◌, nat_le, if◌then◌else◌, Bool, true}
use Rattle.std.specs.Prelude.{List, [], ◌∷◌, ◌++◌, length, take, drop, slice_index, is_some}
use Rattle.std.specs.List.{AllByRecursion, count_by, prefix_len}
use Rattle.hex.specs.Hex.{hex_digit_value}

-- a blank or a tab
abbrev pub is_blank : ℕ → Bool
is_blank c = (c == 32) || (c == 9)

abbrev pub is_zero : ℕ → Bool
is_zero c = c == 48

abbrev pub is_digit : ℕ → Bool
is_digit c = is_some (hex_digit_value c)

-- octets of one kind
abbrev pub AreOf : (ℕ → Bool) → List ℕ → Type 0
AreOf p octets = AllByRecursion (λ c. p c ≡ true) octets

-- The text begins as a dump does: blanks, perhaps 0x or 0X, an offset of 4 to 8 digits 0, perhaps a colon, a
-- blank at least, and a pair of hex digits.
pub record BeginsDump (text : List ℕ) : Type 0 where
  pub indent : List ℕ
  pub prefix : List ℕ
  pub zeros : List ℕ
  pub colon : List ℕ
  pub gap : List ℕ
  pub high : ℕ
  pub low : ℕ
  pub rest : List ℕ
  pub parts : text ≡ indent ++ (prefix ++ (zeros ++ (colon ++ (gap ++ (high ∷ low ∷ rest)))))
  pub indent_is : AreOf is_blank indent
  pub prefix_is : (prefix ≡ []) ⊎ ((prefix ≡ 48 ∷ 120 ∷ []) ⊎ (prefix ≡ 48 ∷ 88 ∷ []))
  pub zeros_are : AreOf is_zero zeros
  pub least : 4 ≤ length zeros
  pub most : length zeros ≤ 8
  pub colon_is : (colon ≡ []) ⊎ (colon ≡ 58 ∷ [])
  pub gap_is : AreOf is_blank gap
  pub gap_some : 0 < length gap
  pub high_is : is_digit high ≡ true
  pub low_is : is_digit low ≡ true

-- at this place begins a line
abbrev pub BeginsLine : List ℕ → ℕ → Type 0
BeginsLine text place = (place ≡ 0) ⊎ ((0 < place) × (slice_index text (place - 1) ≡ 10))

-- at this place begins a line, and a dump
abbrev pub IsDumpFrom : List ℕ → ℕ → Type 0
IsDumpFrom text place = BeginsLine text place × BeginsDump (drop place text)

-- the first place at which a dump begins
abbrev pub IsFirstDump : List ℕ → ℕ → Type 0
IsFirstDump text place = IsDumpFrom text place × ((before : ℕ) → before < place → IsDumpFrom text before → ⊥)

-- The text has a dump, which first begins on this line, from 1.
abbrev pub HasDumpOn : List ℕ → ℕ → Type 0
HasDumpOn text line = (place : ℕ) × IsFirstDump text place × (line ≡ count_by (λ c. c == 10) (take place text) + 1)

abbrev pub HasNoDump : List ℕ → Type 0
HasNoDump text = (place : ℕ) → IsDumpFrom text place → ⊥

-- ---- between the functions: the same as it is read

abbrev pub blanks : List ℕ → ℕ
blanks text = prefix_len is_blank text

abbrev pub zeros : List ℕ → ℕ
zeros text = prefix_len is_zero text

abbrev pub prefix_size : List ℕ → ℕ
prefix_size text = if (slice_index text 0 == 48) &&
    ((slice_index text 1 == 120) || (slice_index text 1 == 88)) then 2 else 0

abbrev pub colon_size : List ℕ → ℕ
colon_size text = if slice_index text 0 == 58 then 1 else 0

abbrev pub begins_pair : List ℕ → Bool
begins_pair text = is_digit (slice_index text 0) && is_digit (slice_index text 1)

-- behind the offset and a colon: a blank and a pair
abbrev pub begins_octets : List ℕ → Bool
begins_octets text = nat_le 1 (blanks text) && begins_pair (drop (blanks text) text)

abbrev pub begins_behind : List ℕ → Bool
begins_behind text = begins_octets (drop (colon_size text) text)

-- the offset, and what follows it
abbrev pub begins_offset : List ℕ → Bool
begins_offset text = nat_le 4 (zeros text) && (nat_le (zeros text) 8 && begins_behind (drop (zeros text) text))

abbrev pub begins_prefix : List ℕ → Bool
begins_prefix text = begins_offset (drop (prefix_size text) text)

abbrev pub begins_dump : List ℕ → Bool
begins_dump text = begins_prefix (drop (blanks text) text)
