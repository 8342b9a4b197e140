-- The bases in which the offsets of dumps are written.
use Rattle.std.specs.Prelude.{ℕ, ◌/◌, ◌%◌, ◌==◌, ◌&&◌, ◌||◌, Bool, true, false, List, [], ◌∷◌, reverse, Option, Some}
use Rattle.std.specs.Prelude.{None}
use Rattle.hex.specs.Hex.{hex_digit_value}
use Rattle.capture_dumps.specs.declared.base.Base.{Base}
use Rattle.capture_dumps.specs.declared.base.Base.TheVariants.{Hex, Decimal, Octal}
use Rattle.capture_dumps.specs.declared.base.Bases.{Bases}

-- the digit has this value
abbrev pub is_value : Option ℕ → ℕ → Bool
is_value None value = false
is_value (Some own) value = own == value

abbrev pub has_value : ℕ → ℕ → Bool
has_value digit value = is_value (hex_digit_value digit) value

-- The digits, the lowest first, write the number in this base; zeros may stand at the end.
abbrev pub spells : ℕ → List ℕ → ℕ → Bool
spells base [] number = number == 0
spells base (digit ∷ digits) number = has_value digit (number % base) && spells base digits (number / base)

-- The digits, the highest first, write the number in this base.
abbrev pub is_number : ℕ → List ℕ → ℕ → Bool
is_number base digits number = spells base (reverse digits) number

abbrev pub base_number : Base → ℕ
base_number Hex = 16
base_number Decimal = 10
base_number Octal = 8

-- ---- between the functions: sets of bases

abbrev pub has : Bases → Base → Bool
has bases Hex = bases.hex
has bases Decimal = bases.decimal
has bases Octal = bases.octal

abbrev pub all_bases : Bases
all_bases = record { hex = true; decimal = true; octal = true }

-- those of them in which the digits write the number
abbrev pub writing : Bases → List ℕ → ℕ → Bases
writing bases digits number = record {
  hex = bases.hex && is_number 16 digits number;
  decimal = bases.decimal && is_number 10 digits number;
  octal = bases.octal && is_number 8 digits number;
}

abbrev pub some_base : Bases → Bool
some_base bases = bases.hex || bases.decimal || bases.octal
