-- The offset at the beginning of a dump's line.
use Rattle.std.specs.Prelude.{ℕ, ◌==◌, ◌&&◌, ◌||◌, nat_le, if◌then◌else◌, Bool, List, length, take, drop, slice_index}
use Rattle.std.specs.Prelude.{Option, Some, None}
use Rattle.std.specs.List.{list_all, prefix_len}
use Rattle.capture_dumps.specs.Dump.{is_blank, is_digit, is_zero, blanks, prefix_size, colon_size}
use Rattle.capture_dumps.specs.declared.offset.Offset.{Offset as OffsetRead}

-- an offset, whether a colon follows it, and what follows that
pub record Offset : Type 0 where
  pub digits : List ℕ
  pub colon : Bool
  pub rest : List ℕ

abbrev pub digit_count : List ℕ → ℕ
digit_count text = prefix_len is_digit text

-- the text ends, or begins with a blank
abbrev pub stands_apart : List ℕ → Bool
stands_apart text = (length text == 0) || is_blank (slice_index text 0)

-- what follows so many digits
abbrev pub behind_digits : ℕ → List ℕ → Option Offset
behind_digits count text =
    let behind = drop count text in
    let rest = drop (colon_size behind) behind in
    if stands_apart rest then Some
    (record { digits = take count text; colon = colon_size behind == 1; rest = rest }) else None

-- An offset is 4 to 8 hex digits, perhaps before a colon, and then a blank or the end of the text.
abbrev pub digits_of : List ℕ → Option Offset
digits_of text = if nat_le 4 (digit_count text) && nat_le (digit_count text) 8 then behind_digits
    (digit_count text) text else None

-- perhaps behind 0x or 0X
abbrev pub prefixed : List ℕ → Option Offset
prefixed text = digits_of (drop (prefix_size text) text)

-- the offset that the text begins with, perhaps behind blanks
abbrev pub offset_of : List ℕ → Option Offset
offset_of text = prefixed (drop (blanks text) text)

abbrev pub is_zero_offset : List ℕ → Bool
is_zero_offset digits = list_all is_zero digits

-- what the code says of an offset
abbrev pub told : OffsetRead → Offset
told offset = record { digits = offset.digits.now; colon = offset.colon; rest = offset.rest.now }
