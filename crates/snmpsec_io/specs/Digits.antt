-- Pairs of hex digits, and what is wrong with a word that isn't such.
--
-- `ArePairs word`, `TellsDigits word fault`. The word is one or more pairs of hex digits; and else which
-- fault is its: it is empty, the first character that is no digit has this number (`BeginsOtherwise`), or
-- its digits are an odd number.
use Rattle.std.specs.Prelude.{◌≡◌, ℕ, ◌<◌, ◌%◌, suc, true, false, List, [], length, slice_index}
use Rattle.std.specs.Char.{is_ascii_hexdigit}
use Rattle.snmpsec_io.specs.declared.digits.DigitsFault.{DigitsFault}
use Rattle.snmpsec_io.specs.declared.digits.DigitsFault.TheVariants as faults

-- The first octets of the word, this many, are hex digits, of either case.
abbrev pub AreDigits : List ℕ → ℕ → Type 0
AreDigits word count = (k : ℕ) → k < count → is_ascii_hexdigit (slice_index word k) ≡ true

-- one or more pairs of hex digits
pub record ArePairs (word : List ℕ) : Type 0 where
  pub some : 0 < length word
  pub even : length word % 2 ≡ 0
  pub digits : AreDigits word (length word)

-- The character of this number, from 1, is the first that is no hex digit. Those before it are digits, so its
-- octets begin at their number.
pub record BeginsOtherwise (word : List ℕ) (at : ℕ) : Type 0 where
  pub place : ℕ
  pub number : at ≡ suc place
  pub within : place < length word
  pub before : AreDigits word place
  pub none : is_ascii_hexdigit (slice_index word place) ≡ false

-- The fault is the word's.
abbrev pub TellsDigits : List ℕ → DigitsFault → Type 0
TellsDigits word faults.Empty = word ≡ []
TellsDigits word (faults.NoDigit at found) = BeginsOtherwise word at
TellsDigits word (faults.Odd count) = (count ≡ length word) × (count % 2 ≡ 1) × AreDigits word count
