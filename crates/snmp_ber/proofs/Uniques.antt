-- A number has one content in two's complement and the fewest octets.
use Rattle.std.proofs.Common.{◌≡◌, ℕ, zero, suc, ◌+◌, ◌*◌, ◌-◌, ◌^◌, ◌<◌, ◌≤◌, List, [], ◌∷◌, ◌++◌, length, get_or, fold, refl, sym, ap, subst, ◌∙◌, arith, inl, inr, ℤ, pos, negsuc, ◌≤ℤ◌, FitsSigned, w32}
use Rattle.std.proofs.lemmas.Int.{ints}
use Rattle.std.proofs.lemmas.Bool.{cases_lt, le-ltb, lt-ltb}
use Rattle.snmp_ber.specs.Number.{number, signed_number, IsFewest, IsInteger32}
use Rattle.std.proofs.lemmas.List.{length-append}
use Rattle.snmp_ber.specs.Element.{IsLength, IsElement}
use Rattle.snmp_ber.specs.Spelling.{shortest_length, element, octet_count}
use Rattle.snmp_ber.proofs.Integers.{signed_number-low, signed_number-high, signed_number-fits, powers_rise}
use Rattle.snmp_ber.specs.Octets.{AreOctets}

-- digits in base 256 are those of their number, where there are as many
pub same_digits : (h k : ℕ) (xs ys : List ℕ) → AreOctets xs → AreOctets ys → length xs ≡ length ys → fold (λ high octet. 256 * high + octet) h xs ≡ fold (λ high octet. 256 * high + octet) k ys → (h ≡ k) × (xs ≡ ys)
same_digits h k [] [] a b l e = (e, refl)
same_digits h k [] (y ∷ ys) a b l e = absurd (omega arith)
same_digits h k (x ∷ xs) [] a b l e = absurd (omega arith)
same_digits h k (x ∷ xs) (y ∷ ys) a b l e =
    let rest = same_digits (256 * h + x) (256 * k + y) xs ys (λ i. a (suc i)) (λ i. b (suc i)) (omega arith) e in
    let low : x < 256 = a 0 in
    let low2 : y < 256 = b 0 in
    let first : x ≡ y = omega (arith, rest.0) in
    (omega (arith, rest.0), rw (first, rest.1) refl)

pub number_below : (xs : List ℕ) → AreOctets xs → length xs ≤ 5 → number xs < 256 ^ length xs
number_below [] b l = omega arith
number_below (a0 ∷ []) b l = omega (arith, b 0)
number_below (a0 ∷ a1 ∷ []) b l = omega (arith, b 0, b 1)
number_below (a0 ∷ a1 ∷ a2 ∷ []) b l = omega (arith, b 0, b 1, b 2)
number_below (a0 ∷ a1 ∷ a2 ∷ a3 ∷ []) b l = omega (arith, b 0, b 1, b 2, b 3)
number_below (a0 ∷ a1 ∷ a2 ∷ a3 ∷ a4 ∷ []) b l = omega (arith, b 0, b 1, b 2, b 3, b 4)
number_below (a0 ∷ a1 ∷ a2 ∷ a3 ∷ a4 ∷ a5 ∷ xs) b l = absurd (omega arith)

positive_count_1 : (m : ℕ) → m < 128 → octet_count (pos m) ≡ 1
positive_count_1 m hi =
    let t0 = lt-ltb m 128 hi in
    rw t0 refl

positive_count_2 : (m : ℕ) → 128 ≤ m → m < 32768 → octet_count (pos m) ≡ 2
positive_count_2 m lo hi =
    let t0 = le-ltb m 128 (omega arith) in
    let t1 = lt-ltb m 32768 hi in
    rw (t0, t1) refl

positive_count_3 : (m : ℕ) → 32768 ≤ m → m < 8388608 → octet_count (pos m) ≡ 3
positive_count_3 m lo hi =
    let t0 = le-ltb m 128 (omega arith) in
    let t1 = le-ltb m 32768 (omega arith) in
    let t2 = lt-ltb m 8388608 hi in
    rw (t0, t1, t2) refl

positive_count_4 : (m : ℕ) → 8388608 ≤ m → m < 2147483648 → octet_count (pos m) ≡ 4
positive_count_4 m lo hi =
    let t0 = le-ltb m 128 (omega arith) in
    let t1 = le-ltb m 32768 (omega arith) in
    let t2 = le-ltb m 8388608 (omega arith) in
    let t3 = lt-ltb m 2147483648 hi in
    rw (t0, t1, t2, t3) refl

positive_count_5 : (m : ℕ) → 2147483648 ≤ m → octet_count (pos m) ≡ 5
positive_count_5 m lo =
    let t0 = le-ltb m 128 (omega arith) in
    let t1 = le-ltb m 32768 (omega arith) in
    let t2 = le-ltb m 8388608 (omega arith) in
    let t3 = le-ltb m 2147483648 (omega arith) in
    rw (t0, t1, t2, t3) refl

negative_count_1 : (m : ℕ) → m < 128 → octet_count (negsuc m) ≡ 1
negative_count_1 m hi =
    let t0 = lt-ltb m 128 hi in
    rw t0 refl

negative_count_2 : (m : ℕ) → 128 ≤ m → m < 32768 → octet_count (negsuc m) ≡ 2
negative_count_2 m lo hi =
    let t0 = le-ltb m 128 (omega arith) in
    let t1 = lt-ltb m 32768 hi in
    rw (t0, t1) refl

negative_count_3 : (m : ℕ) → 32768 ≤ m → m < 8388608 → octet_count (negsuc m) ≡ 3
negative_count_3 m lo hi =
    let t0 = le-ltb m 128 (omega arith) in
    let t1 = le-ltb m 32768 (omega arith) in
    let t2 = lt-ltb m 8388608 hi in
    rw (t0, t1, t2) refl

negative_count_4 : (m : ℕ) → 8388608 ≤ m → octet_count (negsuc m) ≡ 4
negative_count_4 m lo =
    let t0 = le-ltb m 128 (omega arith) in
    let t1 = le-ltb m 32768 (omega arith) in
    let t2 = le-ltb m 8388608 (omega arith) in
    rw (t0, t1, t2) refl

-- what the first nine bits say of the first two octets
low_least : (a b : ℕ) → (a ≡ 0 → b < 128 → ⊥) → 128 ≤ 256 * a + b
low_least a b h =
    elim (cases_lt a 1) [
      | inl lt0 ↦ elim (cases_lt b 128) [
        | inl lt ↦ absurd (h (omega arith) lt)
        | inr le ↦ omega arith
      ]
      | inr le ↦ omega arith
    ]

high_most : (a b : ℕ) → a < 256 → b < 256 → (a ≡ 255 → 128 ≤ b → ⊥) → 256 * a + b < 65408
high_most a b small small2 h =
    elim (cases_lt a 255) [
      | inl lt ↦ omega arith
      | inr le ↦ elim (cases_lt b 128) [
        | inl lt ↦ omega arith
        | inr le1 ↦ absurd (h (omega arith) le1)
      ]
    ]

pub positive_size : (xs : List ℕ) → AreOctets xs → IsFewest xs → length xs ≤ 5 → get_or xs 0 0 < 128 → octet_count (pos (number xs)) ≡ length xs
positive_size [] b f l lt = absurd f
positive_size (a0 ∷ []) b f l lt = positive_count_1 (number (a0 ∷ [])) (omega (arith, b 0))
positive_size (a0 ∷ a1 ∷ []) b f l lt = positive_count_2 (number (a0 ∷ a1 ∷ [])) (omega (arith, b 0, b 1, low_least a0 a1 f.0)) (omega (arith, b 0, b 1))
positive_size (a0 ∷ a1 ∷ a2 ∷ []) b f l lt = positive_count_3 (number (a0 ∷ a1 ∷ a2 ∷ [])) (omega (arith, b 0, b 1, b 2, low_least a0 a1 f.0)) (omega (arith, b 0, b 1, b 2))
positive_size (a0 ∷ a1 ∷ a2 ∷ a3 ∷ []) b f l lt = positive_count_4 (number (a0 ∷ a1 ∷ a2 ∷ a3 ∷ [])) (omega (arith, b 0, b 1, b 2, b 3, low_least a0 a1 f.0)) (omega (arith, b 0, b 1, b 2, b 3))
positive_size (a0 ∷ a1 ∷ a2 ∷ a3 ∷ a4 ∷ []) b f l lt = positive_count_5 (number (a0 ∷ a1 ∷ a2 ∷ a3 ∷ a4 ∷ [])) (omega (arith, b 0, b 1, b 2, b 3, b 4, low_least a0 a1 f.0))
positive_size (a0 ∷ a1 ∷ a2 ∷ a3 ∷ a4 ∷ a5 ∷ xs) b f l lt = absurd (omega arith)

-- how far below zero the octets of a negative number are, less one
below_zero : List ℕ → ℕ
below_zero xs = 256 ^ length xs - 1 - number xs

negative_is : (xs : List ℕ) → AreOctets xs → 1 ≤ length xs → length xs ≤ 5 → 128 ≤ get_or xs 0 0 → signed_number xs ≡ negsuc (below_zero xs)
unfolding below_zero
negative_is xs b some l le =
    let below = number_below xs b l in
    signed_number-high xs some le ∙ omega (arith, ints)

negative_size : (xs : List ℕ) → AreOctets xs → IsFewest xs → length xs ≤ 4 → 128 ≤ get_or xs 0 0 → octet_count (negsuc (below_zero xs)) ≡ length xs
unfolding below_zero
negative_size [] b f l le = absurd f
negative_size (a0 ∷ []) b f l le = negative_count_1 (256 ^ length (a0 ∷ []) - 1 - number (a0 ∷ [])) (omega (arith, b 0))
negative_size (a0 ∷ a1 ∷ []) b f l le = negative_count_2 (256 ^ length (a0 ∷ a1 ∷ []) - 1 - number (a0 ∷ a1 ∷ [])) (omega (arith, b 0, b 1, high_most a0 a1 (b 0) (b 1) f.1)) (omega (arith, b 0, b 1))
negative_size (a0 ∷ a1 ∷ a2 ∷ []) b f l le = negative_count_3 (256 ^ length (a0 ∷ a1 ∷ a2 ∷ []) - 1 - number (a0 ∷ a1 ∷ a2 ∷ [])) (omega (arith, b 0, b 1, b 2, high_most a0 a1 (b 0) (b 1) f.1)) (omega (arith, b 0, b 1, b 2))
negative_size (a0 ∷ a1 ∷ a2 ∷ a3 ∷ []) b f l le = negative_count_4 (256 ^ length (a0 ∷ a1 ∷ a2 ∷ a3 ∷ []) - 1 - number (a0 ∷ a1 ∷ a2 ∷ a3 ∷ [])) (omega (arith, b 0, b 1, b 2, b 3, high_most a0 a1 (b 0) (b 1) f.1))
negative_size (a0 ∷ a1 ∷ a2 ∷ a3 ∷ a4 ∷ xs) b f l le = absurd (omega arith)

fewest_some : (xs : List ℕ) → IsFewest xs → 1 ≤ length xs
fewest_some [] f = absurd f
fewest_some (x ∷ xs) f = omega arith

size_is : (z : ℤ) (xs : List ℕ) → AreOctets xs → IsInteger32 z xs → octet_count z ≡ length xs
size_is z xs b i =
    let some = fewest_some xs i.integer.fewest in
    elim (cases_lt (get_or xs 0 0) 128) [
      | inl lt ↦ ap octet_count (sym (sym (signed_number-low xs some lt) ∙ i.integer.value)) ∙ positive_size xs b i.integer.fewest (omega (arith, i.size)) lt
      | inr le ↦ ap octet_count (sym (sym (negative_is xs b some (omega (arith, i.size)) le) ∙ i.integer.value)) ∙ negative_size xs b i.integer.fewest i.size le
    ]

same_number : (xs ys : List ℕ) → AreOctets xs → AreOctets ys → 1 ≤ length xs → length xs ≤ 4 → length xs ≡ length ys → signed_number xs ≡ signed_number ys → number xs ≡ number ys
same_number xs ys a b some l same e =
    let x = number_below xs a (omega arith) in
    let y = number_below ys b (omega arith) in
    let powers : 256 ^ length xs ≡ 256 ^ length ys = ap (λ (n : ℕ). 256 ^ n) same in
    let some_too : 1 ≤ length ys = omega arith in
    elim (cases_lt (get_or xs 0 0) 128) [
      | inl lt ↦ elim (cases_lt (get_or ys 0 0) 128) [
        | inl lt1 ↦ let p = signed_number-low xs some lt in let q = signed_number-low ys some_too lt1 in omega (arith, ints)
        | inr le1 ↦ let p = signed_number-low xs some lt in let q = signed_number-high ys some_too le1 in absurd (omega (arith, ints))
      ]
      | inr le ↦ elim (cases_lt (get_or ys 0 0) 128) [
        | inl lt1 ↦ let p = signed_number-high xs some le in let q = signed_number-low ys some_too lt1 in absurd (omega (arith, ints))
        | inr le1 ↦ let p = signed_number-high xs some le in let q = signed_number-high ys some_too le1 in omega (arith, ints)
      ]
    ]

pub one_integer : (z : ℤ) (xs ys : List ℕ) → AreOctets xs → AreOctets ys → IsInteger32 z xs → IsInteger32 z ys → xs ≡ ys
one_integer z xs ys a b i j =
    let same : length xs ≡ length ys = sym (size_is z xs a i) ∙ size_is z ys b j in
    let value : signed_number xs ≡ signed_number ys = i.integer.value ∙ sym j.integer.value in
    (same_digits 0 0 xs ys a b same (same_number xs ys a b (fewest_some xs i.integer.fewest) i.size same value)).1

-- The numbers that at most 4 octets spell are those of 32 bits.
pub integer32-range : (z : ℤ) (xs : List ℕ) → AreOctets xs → IsInteger32 z xs → (negsuc 2147483647 ≤ℤ z) × (z ≤ℤ pos 2147483647)
integer32-range z xs b i =
    let some = fewest_some xs i.integer.fewest in
    let fits : FitsSigned w32 (signed_number xs) = signed_number-fits xs some i.size b in
    let value = i.integer.value in
    (omega (arith, ints), omega (arith, ints))

-- ---- lengths

tail_octets : (x : ℕ) (xs : List ℕ) → AreOctets (x ∷ xs) → AreOctets xs
tail_octets x xs b = λ i. b (suc i)

front_octets : (xs ys : List ℕ) → AreOctets (xs ++ ys) → (i : ℕ) → get_or xs i 0 < 256
front_octets [] ys b i = omega arith
front_octets (x ∷ xs) ys b zero = b 0
front_octets (x ∷ xs) ys b (suc i) = front_octets xs ys (λ j. b (suc j)) i

-- a number at or above a power takes more digits than that
digits_more : (n k j : ℕ) → n < 256 ^ k → 256 ^ j ≤ n → suc (suc j) ≤ suc k
digits_more n k j below above =
    elim (cases_lt j k) [
      | inl lt ↦ omega arith
      | inr le ↦ let p = powers_rise k j le in absurd (omega arith)
    ]

-- a number below a power of 256 takes no more digits than that
pub shortest_within : (n k : ℕ) → 1 ≤ k → k ≤ 4 → n < 256 ^ k → length (shortest_length n) ≤ suc k
unfolding shortest_length
shortest_within n k least most below =
    elim (cases_lt n 128) [
      | inl lt ↦ let a = lt-ltb n 128 lt in rw a (omega arith)
      | inr le ↦
          let a = le-ltb n 128 le in
          elim (cases_lt n 256) [
            | inl lt1 ↦ let b = lt-ltb n 256 lt1 in rw (a, b) (omega arith)
            | inr le1 ↦
                let b = le-ltb n 256 le1 in
                elim (cases_lt n 65536) [
                  | inl lt2 ↦ let d = lt-ltb n 65536 lt2 in rw (a, b, d) (digits_more n k 1 below le1)
                  | inr le2 ↦
                      let d = le-ltb n 65536 le2 in
                      elim (cases_lt n 16777216) [
                        | inl lt3 ↦ let e = lt-ltb n 16777216 lt3 in rw (a, b, d, e) (digits_more n k 2 below le2)
                        | inr le3 ↦ let e = le-ltb n 16777216 le3 in rw (a, b, d, e) (digits_more n k 3 below le3)
                      ]
                ]
          ]
    ]

-- No spelling of a length is shorter than its shortest.
pub shortest_length-least : (size : ℕ) (octets : List ℕ) → AreOctets octets → IsLength size octets → length (shortest_length size) ≤ length octets
unfolding shortest_length
shortest_length-least size octets b (inl h) =
    let a = lt-ltb size 128 h.0 in
    rw (a, h.1) (omega arith)
shortest_length-least size octets b (inr (digits, least, most, value, parts)) =
    let small : AreOctets digits = tail_octets (128 + length digits) digits (subst AreOctets parts b) in
    let below : size < 256 ^ length digits = subst (λ (n : ℕ). n < 256 ^ length digits) value (number_below digits small (omega arith)) in
    let long : length octets ≡ suc (length digits) = ap length parts in
    let short = shortest_within size (length digits) least most below in
    omega arith

-- No spelling of an element is shorter than its canonical one.
pub element-least : (tag : ℕ) (content text : List ℕ) → AreOctets text → IsElement tag content text → length (element tag content) ≤ length text
element-least tag content text b e =
    let head = e.1 in
    let octets = head.size_octets in
    let whole : text ≡ tag ∷ (octets ++ content) = e.2 ∙ rw head.parts refl in
    let small : AreOctets octets = front_octets octets content (tail_octets tag (octets ++ content) (subst AreOctets whole b)) in
    let least = shortest_length-least (length content) octets small head.spells_size in
    omega (arith, ap length whole, length-append octets content, length-append (shortest_length (length content)) content)
