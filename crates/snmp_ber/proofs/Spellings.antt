-- The canonical spelling is a spelling.
use Rattle.std.proofs.Common.{◌≡◌, ℕ, ◌+◌, ◌-◌, ◌<◌, ◌≤◌, List, ◌∷◌, length, drop, get_or, refl, sym, ap, ◌∙◌, arith, inl, inr, pos, negsuc, ℤ, w32, w64, ◌^◌, suc, ◌≤ℤ◌}
use Rattle.std.specs.Int.{to_be_bytes, cast_unsigned}
use Rattle.std.proofs.lemmas.Bool.{cases_lt, le-ltb, lt-ltb}
use Rattle.snmp_ber.specs.Number.{number, signed_number, IsInteger, IsInteger32}
use Rattle.snmp_ber.specs.Element.{IsTag, IsLength, IsHead, IsElement}
use Rattle.snmp_ber.specs.Spelling.{shortest_length, head_of, element, integer}
use Rattle.std.proofs.lemmas.Int.{ints}
use Rattle.snmp_ber.proofs.Integers.{signed_number-low, signed_number-high}

digits_of : ℕ → ℕ → List ℕ
digits_of count n = drop (4 - count) (to_be_bytes w32 n)

long_length : (count n : ℕ) → 1 ≤ count → count ≤ 4 → length (digits_of count n) ≡ count → number (digits_of count n) ≡ n → IsLength n ((128 + count) ∷ digits_of count n)
long_length count n least most len value =
    inr (digits_of count n, omega arith, omega arith, value, ap (λ (k : ℕ). (128 + k) ∷ digits_of count n) (sym len))

number_1 : (n : ℕ) → n < 256 → number (digits_of 1 n) ≡ n
unfolding digits_of
number_1 n h = omega arith

number_2 : (n : ℕ) → n < 65536 → number (digits_of 2 n) ≡ n
unfolding digits_of
number_2 n h = omega arith

number_3 : (n : ℕ) → n < 16777216 → number (digits_of 3 n) ≡ n
unfolding digits_of
number_3 n h = omega arith

number_4 : (n : ℕ) → n < 4294967296 → number (digits_of 4 n) ≡ n
unfolding digits_of
number_4 n h = omega arith

pub shortest_length-is : (n : ℕ) → n < 4294967296 → IsLength n (shortest_length n)
unfolding shortest_length digits_of
shortest_length-is n below =
    elim (cases_lt n 128) [
      | inl lt ↦ let a = lt-ltb n 128 lt in rw a (inl (lt, refl))
      | inr le ↦
          let a = le-ltb n 128 le in
          elim (cases_lt n 256) [
            | inl lt1 ↦ let b = lt-ltb n 256 lt1 in rw (a, b) (long_length 1 n (omega arith) (omega arith) refl (number_1 n lt1))
            | inr le1 ↦
                let b = le-ltb n 256 le1 in
                elim (cases_lt n 65536) [
                  | inl lt2 ↦ let d = lt-ltb n 65536 lt2 in rw (a, b, d) (long_length 2 n (omega arith) (omega arith) refl (number_2 n lt2))
                  | inr le2 ↦
                      let d = le-ltb n 65536 le2 in
                      elim (cases_lt n 16777216) [
                        | inl lt3 ↦ let e = lt-ltb n 16777216 lt3 in rw (a, b, d, e) (long_length 3 n (omega arith) (omega arith) refl (number_3 n lt3))
                        | inr le3 ↦ let e = le-ltb n 16777216 le3 in rw (a, b, d, e) (long_length 4 n (omega arith) (omega arith) refl (number_4 n below))
                      ]
                ]
          ]
    ]

pub head_of-is : (tag size : ℕ) → IsTag tag → size < 4294967296 → IsHead tag size (head_of tag size)
head_of-is tag size is_tag below = record { tag_octet = is_tag; size_octets = shortest_length size; spells_size = shortest_length-is size below; parts = refl }

pub element-is : (tag : ℕ) (content : List ℕ) → IsTag tag → length content < 4294967296 → IsElement tag content (element tag content)
element-is tag content is_tag below = (head_of tag (length content), head_of-is tag (length content) is_tag below, refl)

-- ---- INTEGER

-- the last octets of a number of 64 bits
last_octets : ℕ → ℕ → List ℕ
last_octets count n = drop (8 - count) (to_be_bytes w64 n)

low_value : (count n : ℕ) → 1 ≤ length (last_octets count n) → get_or (last_octets count n) 0 0 < 128 → number (last_octets count n) ≡ n → signed_number (last_octets count n) ≡ pos n
low_value count n some low value = signed_number-low (last_octets count n) some low ∙ ap pos value

positive_1 : (n : ℕ) → n < 128 → IsInteger32 (pos n) (last_octets 1 n)
unfolding last_octets
positive_1 n h = record { integer = record { fewest = tt; value = low_value 1 n (omega arith) (omega arith) (omega arith) }; size = omega arith }

positive_2 : (n : ℕ) → 128 ≤ n → n < 32768 → IsInteger32 (pos n) (last_octets 2 n)
unfolding last_octets
positive_2 n l h = record { integer = record { fewest = (λ a b. omega arith, λ a b. omega arith); value = low_value 2 n (omega arith) (omega arith) (omega arith) }; size = omega arith }

positive_3 : (n : ℕ) → 32768 ≤ n → n < 8388608 → IsInteger32 (pos n) (last_octets 3 n)
unfolding last_octets
positive_3 n l h = record { integer = record { fewest = (λ a b. omega arith, λ a b. omega arith); value = low_value 3 n (omega arith) (omega arith) (omega arith) }; size = omega arith }

positive_4 : (n : ℕ) → 8388608 ≤ n → n < 2147483648 → IsInteger32 (pos n) (last_octets 4 n)
unfolding last_octets
positive_4 n l h = record { integer = record { fewest = (λ a b. omega arith, λ a b. omega arith); value = low_value 4 n (omega arith) (omega arith) (omega arith) }; size = omega arith }

positive_5 : (n : ℕ) → 2147483648 ≤ n → n < 4294967296 → IsInteger (pos n) (last_octets 5 n)
unfolding last_octets
positive_5 n l h = record { fewest = (λ a b. omega arith, λ a b. omega arith); value = low_value 5 n (omega arith) (omega arith) (omega arith) }

pub integer-positive : (n : ℕ) → n < 2147483648 → IsInteger32 (pos n) (integer (pos n))
unfolding integer last_octets
integer-positive n below =
    elim (cases_lt n 128) [
      | inl lt ↦ let a = lt-ltb n 128 lt in rw a (positive_1 n lt)
      | inr le ↦
          let a = le-ltb n 128 le in
          elim (cases_lt n 32768) [
            | inl lt1 ↦ let b = lt-ltb n 32768 lt1 in rw (a, b) (positive_2 n le lt1)
            | inr le1 ↦
                let b = le-ltb n 32768 le1 in
                elim (cases_lt n 8388608) [
                  | inl lt2 ↦ let d = lt-ltb n 8388608 lt2 in rw (a, b, d) (positive_3 n le1 lt2)
                  | inr le2 ↦
                      let d = le-ltb n 8388608 le2 in
                      let e = lt-ltb n 2147483648 below in rw (a, b, d, e) (positive_4 n le2 below)
                ]
          ]
    ]

-- the bits of a negative number in 64 bits
negative_bits : ℕ → ℕ
negative_bits n = 18446744073709551615 - n

bits_of : (n : ℕ) → cast_unsigned w64 (negsuc n) ≡ negative_bits n
unfolding negative_bits
bits_of n = omega arith

high_value : (count n : ℕ) → 1 ≤ length (last_octets count (negative_bits n)) → 128 ≤ get_or (last_octets count (negative_bits n)) 0 0
    → number (last_octets count (negative_bits n)) + suc n ≡ 256 ^ length (last_octets count (negative_bits n)) → signed_number (last_octets count (negative_bits n)) ≡ negsuc n
high_value count n some high value =
    let xs = last_octets count (negative_bits n) in
    signed_number-high xs some high ∙ omega (arith, ints, value)

negative_1 : (n : ℕ) → n < 128 → IsInteger32 (negsuc n) (last_octets 1 (negative_bits n))
unfolding last_octets negative_bits
negative_1 n h = record { integer = record { fewest = tt; value = high_value 1 n (omega arith) (omega arith) (omega arith) }; size = omega arith }

negative_2 : (n : ℕ) → 128 ≤ n → n < 32768 → IsInteger32 (negsuc n) (last_octets 2 (negative_bits n))
unfolding last_octets negative_bits
negative_2 n l h = record { integer = record { fewest = (λ a b. omega arith, λ a b. omega arith); value = high_value 2 n (omega arith) (omega arith) (omega arith) }; size = omega arith }

negative_3 : (n : ℕ) → 32768 ≤ n → n < 8388608 → IsInteger32 (negsuc n) (last_octets 3 (negative_bits n))
unfolding last_octets negative_bits
negative_3 n l h = record { integer = record { fewest = (λ a b. omega arith, λ a b. omega arith); value = high_value 3 n (omega arith) (omega arith) (omega arith) }; size = omega arith }

negative_4 : (n : ℕ) → 8388608 ≤ n → n < 2147483648 → IsInteger32 (negsuc n) (last_octets 4 (negative_bits n))
unfolding last_octets negative_bits
negative_4 n l h = record { integer = record { fewest = (λ a b. omega arith, λ a b. omega arith); value = high_value 4 n (omega arith) (omega arith) (omega arith) }; size = omega arith }

pub integer-negative : (n : ℕ) → n < 2147483648 → IsInteger32 (negsuc n) (integer (negsuc n))
unfolding integer last_octets
integer-negative n below =
    let b = bits_of n in
    elim (cases_lt n 128) [
      | inl lt ↦ let a = lt-ltb n 128 lt in rw (a, b) (negative_1 n lt)
      | inr le ↦
          let a = le-ltb n 128 le in
          elim (cases_lt n 32768) [
            | inl lt1 ↦ let d = lt-ltb n 32768 lt1 in rw (a, d, b) (negative_2 n le lt1)
            | inr le1 ↦
                let d = le-ltb n 32768 le1 in
                elim (cases_lt n 8388608) [
                  | inl lt2 ↦ let e = lt-ltb n 8388608 lt2 in rw (a, d, e, b) (negative_3 n le1 lt2)
                  | inr le2 ↦ let e = le-ltb n 8388608 le2 in rw (a, d, e, b) (negative_4 n le2 below)
                ]
          ]
    ]

-- Each number that has a spelling here is spelled by it.
pub integer-is : (z : ℤ) → negsuc 2147483647 ≤ℤ z → z ≤ℤ pos 4294967295 → IsInteger z (integer z)
unfolding integer last_octets
integer-is (negsuc n) low high = (integer-negative n (omega (arith, ints))).integer
integer-is (pos n) low high =
    elim (cases_lt n 2147483648) [
      | inl lt ↦ (integer-positive n lt).integer
      | inr le ↦
          let a = le-ltb n 128 (omega arith) in
          let b = le-ltb n 32768 (omega arith) in
          let d = le-ltb n 8388608 (omega arith) in
          let e = le-ltb n 2147483648 le in
          rw (a, b, d, e) (positive_5 n le (omega (arith, ints)))
    ]

pub integer32-is : (z : ℤ) → negsuc 2147483647 ≤ℤ z → z ≤ℤ pos 2147483647 → IsInteger32 z (integer z)
integer32-is (negsuc n) low high = integer-negative n (omega (arith, ints))
integer32-is (pos n) low high = integer-positive n (omega (arith, ints))
