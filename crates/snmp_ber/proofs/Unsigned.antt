-- Numbers without sign, and their contents in two's complement.
use Rattle.std.proofs.Common.{true, Some, take, drop, ◌≡◌, ℕ, zero, suc, ◌+◌, ◌*◌, ◌-◌, ◌^◌, ◌<◌, ◌≤◌, ◌⊎◌, List, [], ◌∷◌, length, get_or, fold, refl, sym, ap, subst, ◌∙◌, arith, inl, inr, pos}
use Rattle.std.proofs.lemmas.Int.{ints}
use Rattle.std.proofs.lemmas.Bool.{cases_lt}
use Rattle.snmp_ber.specs.Number.{number, signed_number, IsFewest, IsUnsigned}
use Rattle.snmp_ber.specs.Octets.{AreOctets}
use Rattle.std.proofs.Math.Nat.{pow-succ'}
use Rattle.std.proofs.Math.Seq.{take-length}
use Rattle.snmp_ber.specs.Reading.{has_fewest}
use Rattle.snmp_ber.specs.Spelling.{integer, octet_count}
use Rattle.snmp_ber.proofs.Spellings.{integer-is}
use Rattle.snmp_ber.proofs.Uniques.{same_digits, positive_size}
use Rattle.snmp_ber.proofs.Integers.{has_fewest-is, powers_rise, signed_number-low, signed_number-high}

abbrev digits_after : ℕ → List ℕ → ℕ
digits_after high octets = fold (λ high octet. 256 * high + octet) high octets

-- digits only add to what is before them
rises : (high : ℕ) (octets : List ℕ) → high ≤ digits_after high octets
rises high [] = omega arith
rises high (x ∷ xs) = let more = rises (256 * high + x) xs in omega (arith, more)

below_after : (j high : ℕ) (octets : List ℕ) → AreOctets octets → high < 256 ^ j → digits_after high octets < 256 ^ (j + length octets)
below_after j high [] are below = let same : j + 0 ≡ j = omega arith in rw same below
below_after j high (x ∷ xs) are below =
    let octet : x < 256 = are 0 in
    let power : 256 ^ suc j ≡ 256 * 256 ^ j = pow-succ' 256 j in
    let more = below_after (suc j) (256 * high + x) xs (λ i. are (suc i)) (omega (arith, octet, power, below)) in
    let same : suc j + length xs ≡ j + suc (length xs) = omega arith in
    subst (λ k. digits_after (256 * high + x) xs < 256 ^ k) same more

above_after : (j k high : ℕ) (octets : List ℕ) → 256 ^ j ≤ high → k ≤ length octets → 256 ^ (j + k) ≤ digits_after high octets
above_after j zero high octets least few =
    let same : j + 0 ≡ j = omega arith in
    let more = rises high octets in rw same (omega (arith, least, more))
above_after j (suc k) high [] least few = absurd (omega (arith, few))
above_after j (suc k) high (x ∷ xs) least few =
    let power : 256 ^ suc j ≡ 256 * 256 ^ j = pow-succ' 256 j in
    let more = above_after (suc j) k (256 * high + x) xs (omega (arith, power, least)) (omega (arith, few)) in
    let same : suc j + k ≡ j + suc k = omega arith in
    subst (λ n. 256 ^ n ≤ digits_after (256 * high + x) xs) same more

above_power : (k high : ℕ) (octets : List ℕ) → 1 ≤ high → k ≤ length octets → 256 ^ k ≤ digits_after high octets
above_power k high octets least few =
    let one : 256 ^ 0 ≤ high = omega (arith, least) in
    let same : 0 + k ≡ k = omega arith in
    subst (λ n. 256 ^ n ≤ digits_after high octets) same (above_after 0 k high octets one few)

number_after : (x : ℕ) (xs : List ℕ) → number (x ∷ xs) ≡ digits_after x xs
number_after x xs = let first : 256 * 0 + x ≡ x = omega arith in ap (λ (h : ℕ). digits_after h xs) first

pub number_below_power : (octets : List ℕ) → AreOctets octets → number octets < 256 ^ length octets
number_below_power octets are =
    let one : 0 < 256 ^ 0 = omega arith in
    let same : 0 + length octets ≡ length octets = omega arith in
    subst (λ n. number octets < 256 ^ n) same (below_after 0 0 octets are one)

-- at most k octets, or one more that is 0
abbrev pub FitsIn : ℕ → List ℕ → Type 0
FitsIn k content = (length content ≤ k) ⊎ ((length content ≡ suc k) × (get_or content 0 0 ≡ 0))

pub unsigned_is : (k : ℕ) (content : List ℕ) → AreOctets content → IsFewest content → 1 ≤ length content → get_or content 0 0 < 128 → FitsIn k content → IsUnsigned k (number content) content
unsigned_is k content are fewest some low (inl few) = record {
  integer = record { fewest = fewest; value = signed_number-low content some low };
  below =
      let most = number_below_power content are in
      let rise = powers_rise (length content) k few in
      omega (arith, most, rise);
}
unsigned_is k [] are fewest some low (inr more) = absurd (omega (arith, some))
unsigned_is k (x ∷ xs) are fewest some low (inr more) = record {
  integer = record { fewest = fewest; value = signed_number-low (x ∷ xs) some low };
  below =
      let zero_first : x ≡ 0 = more.1 in
      let most = number_below_power xs (λ i. are (suc i)) in
      let many : length xs ≡ k = omega (arith, more.0) in
      rw zero_first (subst (λ n. number xs < 256 ^ n) many most);
}

-- the first octet of a number without sign
first_low : (n : ℕ) (content : List ℕ) → AreOctets content → 1 ≤ length content → signed_number content ≡ pos n → get_or content 0 0 < 128
first_low n content are some is =
    elim (cases_lt (get_or content 0 0) 128) [
      | inl lt ↦ lt
      | inr le ↦ let high = signed_number-high content some le in let below = number_below_power content are in absurd (omega (arith, ints, high, below, is))
    ]

number_is : (n : ℕ) (content : List ℕ) → 1 ≤ length content → get_or content 0 0 < 128 → signed_number content ≡ pos n → number content ≡ n
number_is n content some low is = let same = signed_number-low content some low in omega (arith, ints, same, is)

some_octet : (content : List ℕ) → IsFewest content → 1 ≤ length content
some_octet [] fewest = absurd fewest
some_octet (x ∷ xs) fewest = omega arith

-- more octets than these spell a greater number
fits_in : (k n : ℕ) (content : List ℕ) → IsFewest content → number content ≡ n → n < 256 ^ k → FitsIn k content
fits_in k n [] fewest is below = absurd fewest
fits_in k n (x ∷ []) fewest is below =
    elim (cases_lt 0 k) [
      | inl some ↦ inl (omega (arith, some))
      | inr none ↦
          let no : k ≡ 0 = omega (arith, none) in
          let one : n < 1 = subst (λ j. n < 256 ^ j) no below in
          inr (omega (arith, no), omega (arith, is, one))
    ]
fits_in k n (x ∷ y ∷ xs) fewest is below =
    elim (cases_lt k (suc (suc (length xs)))) [
      | inr few ↦ inl few
      | inl many ↦ elim (cases_lt 0 x) [
        | inl first ↦
            let least = above_power k x (y ∷ xs) (omega (arith, first)) (omega (arith, many)) in
            let same = number_after x (y ∷ xs) in
            absurd (omega (arith, least, same, is, below))
        | inr none ↦
            let zero_first : x ≡ 0 = omega (arith, none) in
            let second : 128 ≤ y = elim (cases_lt y 128) [ inl low ↦ absurd (fewest.0 zero_first low) | inr le ↦ le ] in
            let number_rest : number (y ∷ xs) ≡ n = subst (λ h. number (h ∷ y ∷ xs) ≡ n) zero_first is in
            elim (cases_lt k (suc (length xs))) [
              | inl too_many ↦
                  let least = above_power k y xs (omega (arith, second)) (omega (arith, too_many)) in
                  let same = number_after y xs in
                  absurd (omega (arith, least, same, number_rest, below))
              | inr exactly ↦ inr (omega (arith, many, exactly), zero_first)
            ]
      ]
    ]

pub unsigned_only : (k n : ℕ) (content : List ℕ) → AreOctets content → IsUnsigned k n content → IsFewest content × (get_or content 0 0 < 128) × FitsIn k content × (number content ≡ n)
unsigned_only k n content are is =
    let some = some_octet content is.integer.fewest in
    let low = first_low n content are some is.integer.value in
    let same = number_is n content some low is.integer.value in
    (is.integer.fewest, low, fits_in k n content is.integer.fewest same is.below, same)

-- ---- as the code asks

pub some_unsigned : (k : ℕ) (content : List ℕ) → AreOctets content → has_fewest content ≡ true → get_or content 0 0 < 128 → FitsIn k content → (n : ℕ) × IsUnsigned k n content
some_unsigned k content are fewest low fits =
    let few = has_fewest-is content fewest in
    (number content, unsigned_is k content are few (some_octet content few) low fits)

pub not_low : (k : ℕ) (content : List ℕ) → AreOctets content → 128 ≤ get_or content 0 0 → (n : ℕ) × IsUnsigned k n content → ⊥
not_low k content are high is = let only = unsigned_only k is.0 content are is.1 in let low = only.1 in omega (arith, low, high)

pub fits_unsigned : (k : ℕ) (content : List ℕ) → AreOctets content → (n : ℕ) × IsUnsigned k n content → FitsIn k content
fits_unsigned k content are is = (unsigned_only k is.0 content are is.1).2

-- the number that is read
pub reads : (content : List ℕ) → AreOctets content → (x : ℕ) × IsUnsigned 4 x content → (read : ℕ) → read ≡ number content
    → (n : ℕ) → (Some read ≡ Some n → IsUnsigned 4 n content) × (IsUnsigned 4 n content → Some read ≡ Some n)
reads content are unsigned read is n =
    let same : number content ≡ unsigned.0 = (unsigned_only 4 unsigned.0 content are unsigned.1).3 in (
      λ e. let here : unsigned.0 ≡ n = sym same ∙ sym is ∙ cc e in subst (λ (m : ℕ). IsUnsigned 4 m content) here unsigned.1,
      λ u. let there : number content ≡ n = (unsigned_only 4 n content are u).3 in ap (λ (m : ℕ). Some m) (is ∙ there),
    )

-- five octets, of which the first is 0
pub behind_zero : (content : List ℕ) → AreOctets content → (x : ℕ) × IsUnsigned 4 x content → 4 < length content
    → (length content ≡ 5) × (number (take (length content - 1) (drop 1 content)) ≡ number content)
behind_zero [] are unsigned many = absurd (omega (arith, many))
behind_zero (x ∷ xs) are unsigned many =
    elim (fits_unsigned 4 (x ∷ xs) are unsigned) [
      | inl few ↦ absurd (omega (arith, few, many))
      | inr more ↦ (more.0, let zero_first : x ≡ 0 = more.1 in let rest : suc (length xs) - 1 ≡ length xs = omega arith in rw (zero_first, rest, take-length xs) refl)
    ]

-- ---- one content

at_most_five : (content : List ℕ) → FitsIn 4 content → length content ≤ 5
at_most_five content (inl few) = omega (arith, few)
at_most_five content (inr more) = let size = more.0 in omega (arith, size)

pub unsigned_spelled : (n : ℕ) → n < 2 ^ 32 → IsUnsigned 4 n (integer (pos n))
unsigned_spelled n below = record {
  integer = integer-is (pos n) (omega (arith, ints)) (omega (arith, ints, below));
  below = omega (arith, below);
}

pub one_unsigned : (n : ℕ) (xs ys : List ℕ) → AreOctets xs → AreOctets ys → IsUnsigned 4 n xs → IsUnsigned 4 n ys → xs ≡ ys
one_unsigned n xs ys a b i j =
    let x = unsigned_only 4 n xs a i in
    let y = unsigned_only 4 n ys b j in
    let digits : number xs ≡ number ys = x.3 ∙ sym y.3 in
    let first = positive_size xs a x.0 (at_most_five xs x.2) x.1 in
    let second = positive_size ys b y.0 (at_most_five ys y.2) y.1 in
    let same : length xs ≡ length ys = sym first ∙ ap (λ (m : ℕ). octet_count (pos m)) digits ∙ second in
    (same_digits 0 0 xs ys a b same digits).1
