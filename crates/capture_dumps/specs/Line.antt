-- The lines of a text with dumps.
--
-- `IsKindOf line kind`. What a line is: without an offset (`offset_of` in `Offset`); the first of a dump or
-- one that goes on, with its octets; an offset and other words; or an offset and pairs that can't be read.
-- `IsRowAt`: pairs stand apart, or behind a colon may be joined.
use Rattle.std.specs.Prelude.{◌≡◌, ◌≢◌, ◌⊎◌, ℕ, ◌-◌, ◌%◌, ◌==◌, ◌&&◌, ◌||◌, not, nat_lt, if◌then◌else◌, Bool, true}
use Rattle.std.specs.Prelude.{false, List, [], ◌∷◌, length, take, drop, Option, Some, None}
use Rattle.std.specs.List.{list_all, prefix_len}
use Rattle.snmp_ber.specs.Splits.{Lacks, IsSplit}
use Rattle.capture_dumps.specs.Dump.{blanks, is_blank, is_digit}
use Rattle.capture_dumps.specs.Column.{are_blanks, from_end}
use Rattle.capture_dumps.specs.Row.{IsRow, IsNoRow}
use Rattle.capture_dumps.specs.Offset.{Offset, offset_of, is_zero_offset}
use Rattle.capture_dumps.specs.declared.line.Line.{Line}
use Rattle.capture_dumps.specs.declared.line.Line.TheVariants as of

-- What a line is to a dump: one without an offset; the first line of one, with these octets; a further line,
-- with these digits as its offset and these octets, or without octets; an offset and other words; or an
-- offset and pairs that can't be read.
pub data Kind : Type 0 where
  other : Kind
  begin : (octets : List ℕ) → Kind
  more : (digits octets : List ℕ) → Kind
  words : Kind
  bad : Kind

-- ---- what follows an offset

abbrev pub word_size : List ℕ → ℕ
word_size text = prefix_len (λ c. not (is_blank c)) text

-- the first word of a text
abbrev pub first_word : List ℕ → List ℕ
first_word text = let behind = drop (blanks text) text in take (word_size behind) behind

abbrev pub are_digits : List ℕ → Bool
are_digits word = list_all is_digit word

-- The word is pairs of hex digits, one at least.
abbrev pub are_pairs : List ℕ → Bool
are_pairs word = not (length word == 0) && ((length word % 2 == 0) && are_digits word)

abbrev pub has_pairs : Offset → Bool
has_pairs o = are_pairs (first_word o.rest)

-- Behind a colon pairs may be joined; else the first stands apart, since other tools write numbers of several
-- octets there, the lowest first.
abbrev pub is_apart : Offset → Bool
is_apart o = o.colon || (length (first_word o.rest) == 2)

-- the octets of the pairs behind the offset
pub record IsRowAt (o : Offset) (octets : List ℕ) : Type 0 where
  pub pairs : has_pairs o ≡ true
  pub apart : is_apart o ≡ true
  pub row : IsRow o.rest octets

-- ---- the lines

-- What a line is that begins with an offset.
abbrev pub IsKindAt : Offset → Kind → Type 0
IsKindAt o other = ⊥
IsKindAt o (begin octets) = (is_zero_offset o.digits ≡ true) × IsRowAt o octets
IsKindAt o (more digits octets) =
    (digits ≡ o.digits) × (((are_blanks o.rest ≡ true) × (octets ≡ []))
    ⊎ ((is_zero_offset o.digits ≡ false) × IsRowAt o octets))
IsKindAt o words = (are_blanks o.rest ≡ false) × (has_pairs o ≡ false)
IsKindAt o bad = (has_pairs o ≡ true) × ((is_apart o ≡ false) ⊎ IsNoRow o.rest)

abbrev pub IsKindFrom : Option Offset → Kind → Type 0
IsKindFrom None k = k ≡ other
IsKindFrom (Some o) k = IsKindAt o k

-- the text without a carriage return at its end
abbrev pub without_return : List ℕ → List ℕ
without_return text = if nat_lt 0 (length text) && (from_end text 1 == 13) then take (length text - 1) text else text

-- what a line is
abbrev pub IsKindOf : List ℕ → Kind → Type 0
IsKindOf text k = IsKindFrom (offset_of (without_return text)) k

-- The first line, up to its line feed, or the last, which may lack it.
abbrev pub IsFirstLine : List ℕ → List ℕ → List ℕ → Type 0
IsFirstLine text line rest = IsSplit 10 text line rest ⊎ ((text ≢ []) × Lacks 10 text × (line ≡ text) × (rest ≡ []))

-- These are the lines of the text, and there is no other.
abbrev pub AreLines : List ℕ → List Kind → Type 0
AreLines text [] = text ≡ []
AreLines text (k ∷ kinds) = (first : List ℕ) × (rest : List ℕ) × IsFirstLine text first rest × IsKindOf first k
    × AreLines rest kinds

-- ---- between the functions

-- what the code says of a line
abbrev pub kind : Line → Kind
kind of.Other = other
kind (of.Begin octets) = begin octets.items
kind (of.More digits octets) = more digits.now octets.items
kind of.Words = words
kind of.Bad = bad
