-- Numbers in decimal: digits alone, without sign or leading zeros.
--
-- `IsDecimal most n text`: the text is the decimal of n, without sign or leading zeros, and n is at most
-- `most`.
use Rattle.std.specs.Prelude.{◌≡◌, ℕ, ◌≤◌, List, decimal}

-- the text is the decimal of n, which is at most `most`
abbrev pub IsDecimal : ℕ → ℕ → List ℕ → Type 0
IsDecimal most n text = (n ≤ most) × (text ≡ decimal n)
