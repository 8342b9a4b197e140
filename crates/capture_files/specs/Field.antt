-- Numbers of several octets in a header, by the place of their first octet.
use Rattle.std.specs.Prelude.{ℕ, ◌+◌, ◌*◌, List, slice_index}
use Rattle.capture_files.specs.declared.field.Order.{Order}
use Rattle.capture_files.specs.declared.field.Order.TheVariants.{Big, Little}

-- two octets, the higher first
abbrev pub field16 : List ℕ → ℕ → ℕ
field16 octets at = slice_index octets at * 256 + slice_index octets (at + 1)

-- four octets, the highest first or the lowest first
abbrev pub field32 : Order → List ℕ → ℕ → ℕ
field32 Big octets at =
    ((slice_index octets at * 256 + slice_index octets (at + 1)) * 256 + slice_index octets (at + 2)) * 256
    + slice_index octets (at + 3)
field32 Little octets at =
    ((slice_index octets (at + 3) * 256 + slice_index octets (at + 2)) * 256 + slice_index octets (at + 1)) * 256
    + slice_index octets at

-- two octets in an order
abbrev pub field16_by : Order → List ℕ → ℕ → ℕ
field16_by Big octets at = field16 octets at
field16_by Little octets at = slice_index octets (at + 1) * 256 + slice_index octets at

-- eight octets
abbrev pub field64 : Order → List ℕ → ℕ → ℕ
field64 Big octets at = field32 Big octets at * 4294967296 + field32 Big octets (at + 4)
field64 Little octets at = field32 Little octets (at + 4) * 4294967296 + field32 Little octets at
