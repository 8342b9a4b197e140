-- Between the functions: the part that a text begins with, by its first octets. Behind the end they are 0,
-- which stands in no part.
use Rattle.std.specs.Prelude.{ℕ, ◌+◌, ◌*◌, ◌==◌, ◌&&◌, ◌||◌, if◌then◌else◌, List, slice_index, Option, Some, None}
use Rattle.hex.specs.Hex.{hex_digit_value}
use Rattle.capture_dumps.specs.Text.{is_between}
use Rattle.capture_dumps.specs.declared.part.Part.{Part}
use Rattle.capture_dumps.specs.declared.part.Part.TheVariants.{Gap, Octet}

abbrev pub gap_size : List ℕ → ℕ
gap_size text =
    if is_between (slice_index text 0) then 1
    else if slice_index text 0 == 92 then
    (if slice_index text 1 == 10 then 2 else if (slice_index text 1 == 13) && (slice_index text 2 == 10) then 3 else 0)
    else 0

abbrev pub prefix_size : List ℕ → ℕ
prefix_size text =
    if (slice_index text 0 == 48) && ((slice_index text 1 == 120) || (slice_index text 1 == 88)) then 2
    else if (slice_index text 0 == 92) && (slice_index text 1 == 120) then 2
    else 0

abbrev pub joined_digits : Option ℕ → Option ℕ → Option ℕ
joined_digits None low = None
joined_digits (Some high) None = None
joined_digits (Some high) (Some low) = Some (high * 16 + low)

abbrev pub pair_value : List ℕ → ℕ → Option ℕ
pair_value text place = joined_digits (hex_digit_value (slice_index text place))
    (hex_digit_value (slice_index text (place + 1)))

abbrev pub octet_part : ℕ → Option ℕ → Option Part
octet_part size None = None
octet_part size (Some octet) = Some (Octet octet size)

abbrev pub first_part : List ℕ → Option Part
first_part text =
    if gap_size text == 0 then octet_part (prefix_size text + 2) (pair_value text (prefix_size text))
    else Some (Gap (gap_size text))
