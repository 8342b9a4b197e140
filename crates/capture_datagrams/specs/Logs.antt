-- Which files are logs.
--
-- `BeginsLog`: a file that begins so is a log, as far as its first line is in these octets: a moment, a blank, and
-- pairs of hex digits. The moment doesn't begin with the digits 30, since messages in hex do.
use Rattle.std.specs.Prelude.{◌≡◌, ◌≢◌, ◌⊎◌, ◌≤◌, ◌-◌, ◌^◌, ℕ, List, All, length, take, true, codes}
use Rattle.std.specs.Char.{is_ascii_hexdigit}
use Rattle.snmp_ber.specs.Decimal.{IsDecimal}
use Rattle.snmp_ber.specs.Splits.{IsSplit, Lacks}

-- the line is what stands before the first line feed, or all of the text
abbrev pub IsFirstLine : List ℕ → List ℕ → Type 0
IsFirstLine text line = ((rest : List ℕ) × IsSplit 10 text line rest) ⊎ (Lacks 10 text × (line ≡ text))

-- whole seconds, that don't begin as a message in hex
pub record IsMoment (word : List ℕ) : Type 0 where
  pub seconds : ℕ
  pub decimal : IsDecimal (2 ^ 64 - 1) seconds word
  pub no_message : take 2 word ≢ codes "30"

-- hex digits
abbrev pub AreHexDigits : List ℕ → Type 0
AreHexDigits digits = All (λ digit. is_ascii_hexdigit digit ≡ true) digits

-- a file that begins so is a log
pub record BeginsLog (front : List ℕ) : Type 0 where
  pub moment : List ℕ
  pub rest : List ℕ
  pub split : IsSplit 32 front moment rest
  pub is_moment : IsMoment moment
  pub digits : List ℕ
  pub line : IsFirstLine rest digits
  pub pair : 2 ≤ length digits
  pub are_digits : AreHexDigits digits
