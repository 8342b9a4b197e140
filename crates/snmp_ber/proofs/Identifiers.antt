-- The canonical content of an identifier: it is one, and it is the only one.
use Rattle.std.proofs.Common.{◌≡◌, ◌≢◌, ℕ, zero, suc, ◌+◌, ◌*◌, ◌/◌, ◌%◌, ◌<◌, ◌≤◌, ◌^◌, List, [], ◌∷◌, ◌++◌, length, take, get_or, Some, refl, sym, ap, ◌∙◌, arith, inl, inr}
use Rattle.std.specs.Prelude.{map, slice_get}
use Rattle.std.specs.List.{AllByRecursion, flat_map}
use Rattle.std.proofs.lemmas.List.{length-append, length-take-le, flat_map_more, take_more}
use Rattle.std.proofs.lemmas.Option.{same_Some}
use Rattle.std.proofs.lemmas.Bool.{cases_lt, le-ltb, lt-ltb}
use Rattle.snmp_ber.specs.Oid.{base_128, IsSubidentifier, AreSubidentifiers, AreArcs, IsObjectId, IsIdentifier, subidentifiers, group_count, subidentifier, identifier}
use Rattle.snmp_ber.proofs.Oids.{identifier_in-again}

-- ---- how many groups a number takes

count_1 : (n : ℕ) → n < 128 → group_count n ≡ 1
count_1 n h = let a = lt-ltb n 128 h in rw a refl

count_2 : (n : ℕ) → 128 ≤ n → n < 16384 → group_count n ≡ 2
count_2 n l h = let a = le-ltb n 128 l in let b = lt-ltb n 16384 h in rw (a, b) refl

count_3 : (n : ℕ) → 16384 ≤ n → n < 2097152 → group_count n ≡ 3
count_3 n l h = let a = le-ltb n 128 (omega arith) in let b = le-ltb n 16384 l in let d = lt-ltb n 2097152 h in rw (a, b, d) refl

count_4 : (n : ℕ) → 2097152 ≤ n → n < 268435456 → group_count n ≡ 4
count_4 n l h = let a = le-ltb n 128 (omega arith) in let b = le-ltb n 16384 (omega arith) in let d = le-ltb n 2097152 l in let e = lt-ltb n 268435456 h in rw (a, b, d, e) refl

count_5 : (n : ℕ) → 268435456 ≤ n → group_count n ≡ 5
count_5 n l = let a = le-ltb n 128 (omega arith) in let b = le-ltb n 16384 (omega arith) in let d = le-ltb n 2097152 (omega arith) in let e = le-ltb n 268435456 l in rw (a, b, d, e) refl

-- ---- the canonical subidentifier, by the number's size

groups_1 : (n : ℕ) → n < 128 → subidentifier n ≡ n ∷ []
unfolding subidentifier
groups_1 n h = let c = count_1 n h in let r : n % 128 ≡ n = omega arith in rw (c, r) refl

groups_2 : (n : ℕ) → 128 ≤ n → n < 16384 → subidentifier n ≡ (128 + n / 128) ∷ n % 128 ∷ []
unfolding subidentifier
groups_2 n l h = let c = count_2 n l h in let r : n / 128 % 128 ≡ n / 128 = omega arith in rw (c, r) refl

groups_3 : (n : ℕ) → 16384 ≤ n → n < 2097152 → subidentifier n ≡ (128 + n / 16384) ∷ (128 + n / 128 % 128) ∷ n % 128 ∷ []
unfolding subidentifier
groups_3 n l h = let c = count_3 n l h in let r : n / 16384 % 128 ≡ n / 16384 = omega arith in rw (c, r) refl

groups_4 : (n : ℕ) → 2097152 ≤ n → n < 268435456 → subidentifier n ≡ (128 + n / 2097152) ∷ (128 + n / 16384 % 128) ∷ (128 + n / 128 % 128) ∷ n % 128 ∷ []
unfolding subidentifier
groups_4 n l h = let c = count_4 n l h in let r : n / 2097152 % 128 ≡ n / 2097152 = omega arith in rw (c, r) refl

groups_5 : (n : ℕ) → 268435456 ≤ n → subidentifier n ≡ (128 + n / 268435456) ∷ (128 + n / 2097152 % 128) ∷ (128 + n / 16384 % 128) ∷ (128 + n / 128 % 128) ∷ n % 128 ∷ []
unfolding subidentifier
groups_5 n l = let c = count_5 n l in rw c refl

-- ---- it is a subidentifier

not_zero : (n : ℕ) → 1 ≤ n → Some n ≢ Some 0
not_zero n h e = let z : n ≡ 0 = same_Some n 0 e in absurd (omega (arith, z, h))

one : (n : ℕ) → n < 128 → IsSubidentifier n (n ∷ [])
one n h = record { high = []; last = n; seven_bits = tt; last_seven = h; shortest = λ e. absurd cc; value = omega arith; limit = omega arith; text_is = refl }

two : (n : ℕ) → 128 ≤ n → n < 16384 → IsSubidentifier n ((128 + n / 128) ∷ n % 128 ∷ [])
two n l h = record { high = n / 128 ∷ []; last = n % 128; seven_bits = (omega arith, tt); last_seven = omega arith; shortest = not_zero (n / 128) (omega arith); value = omega arith; limit = omega arith; text_is = refl }

three : (n : ℕ) → 16384 ≤ n → n < 2097152 → IsSubidentifier n ((128 + n / 16384) ∷ (128 + n / 128 % 128) ∷ n % 128 ∷ [])
three n l h = record { high = n / 16384 ∷ n / 128 % 128 ∷ []; last = n % 128; seven_bits = (omega arith, (omega arith, tt)); last_seven = omega arith; shortest = not_zero (n / 16384) (omega arith); value = omega arith; limit = omega arith; text_is = refl }

four : (n : ℕ) → 2097152 ≤ n → n < 268435456 → IsSubidentifier n ((128 + n / 2097152) ∷ (128 + n / 16384 % 128) ∷ (128 + n / 128 % 128) ∷ n % 128 ∷ [])
four n l h = record { high = n / 2097152 ∷ n / 16384 % 128 ∷ n / 128 % 128 ∷ []; last = n % 128; seven_bits = (omega arith, (omega arith, (omega arith, tt))); last_seven = omega arith; shortest = not_zero (n / 2097152) (omega arith); value = omega arith; limit = omega arith; text_is = refl }

five : (n : ℕ) → 268435456 ≤ n → n ≤ 4294967295 → IsSubidentifier n ((128 + n / 268435456) ∷ (128 + n / 2097152 % 128) ∷ (128 + n / 16384 % 128) ∷ (128 + n / 128 % 128) ∷ n % 128 ∷ [])
five n l h = record { high = n / 268435456 ∷ n / 2097152 % 128 ∷ n / 16384 % 128 ∷ n / 128 % 128 ∷ []; last = n % 128; seven_bits = (omega arith, (omega arith, (omega arith, (omega arith, tt)))); last_seven = omega arith; shortest = not_zero (n / 268435456) (omega arith); value = omega arith; limit = h; text_is = refl }

pub subidentifier-is : (n : ℕ) → n ≤ 4294967295 → IsSubidentifier n (subidentifier n)
subidentifier-is n most =
    elim (cases_lt n 128) [
      | inl lt ↦ rw (groups_1 n lt) (one n lt)
      | inr le ↦ elim (cases_lt n 16384) [
        | inl lt1 ↦ rw (groups_2 n le lt1) (two n le lt1)
        | inr le1 ↦ elim (cases_lt n 2097152) [
          | inl lt2 ↦ rw (groups_3 n le1 lt2) (three n le1 lt2)
          | inr le2 ↦ elim (cases_lt n 268435456) [
            | inl lt3 ↦ rw (groups_4 n le2 lt3) (four n le2 lt3)
            | inr le3 ↦ rw (groups_5 n le3) (five n le3 most)
          ]
        ]
      ]
    ]

-- ---- it is the only one

base_128-grows : (n : ℕ) (groups : List ℕ) (last : ℕ) → 128 * n ≤ base_128 n (groups ++ last ∷ [])
base_128-grows n [] last = omega arith
base_128-grows n (g ∷ groups) last = omega (arith, base_128-grows (128 * n + g) groups last)

first_some : (g : ℕ) (groups : List ℕ) → slice_get (g ∷ groups) 0 ≢ Some 0 → 1 ≤ g
first_some zero groups h = absurd (h refl)
first_some (suc g) groups h = omega arith

only : (high : List ℕ) (last n : ℕ) → AllByRecursion (λ group. group < 128) high → last < 128 → slice_get high 0 ≢ Some 0 → base_128 0 (high ++ last ∷ []) ≡ n → n ≤ 4294967295
    → map (λ group. 128 + group) high ++ last ∷ [] ≡ subidentifier n
only [] z n s l h v m =
    let e : z ≡ n = omega arith in
    ap (λ (k : ℕ). k ∷ []) e ∙ sym (groups_1 n (omega arith))
only (a ∷ []) z n s l h v m =
    let p = first_some a [] h in
    let q0 : a ≡ n / 128 = omega (arith, s.0) in
    let q1 : z ≡ n % 128 = omega (arith, s.0) in
    let r = groups_2 n (omega arith) (omega (arith, s.0)) in
    rw (r, ← q0, ← q1) refl
only (a ∷ b ∷ []) z n s l h v m =
    let p = first_some a (b ∷ []) h in
    let q0 : a ≡ n / 16384 = omega (arith, s.0, s.1.0) in
    let q1 : b ≡ n / 128 % 128 = omega (arith, s.0, s.1.0) in
    let q2 : z ≡ n % 128 = omega (arith, s.0, s.1.0) in
    let r = groups_3 n (omega arith) (omega (arith, s.0, s.1.0)) in
    rw (r, ← q0, ← q1, ← q2) refl
only (a ∷ b ∷ c ∷ []) z n s l h v m =
    let p = first_some a (b ∷ c ∷ []) h in
    let q0 : a ≡ n / 2097152 = omega (arith, s.0, s.1.0, s.1.1.0) in
    let q1 : b ≡ n / 16384 % 128 = omega (arith, s.0, s.1.0, s.1.1.0) in
    let q2 : c ≡ n / 128 % 128 = omega (arith, s.0, s.1.0, s.1.1.0) in
    let q3 : z ≡ n % 128 = omega (arith, s.0, s.1.0, s.1.1.0) in
    let r = groups_4 n (omega arith) (omega (arith, s.0, s.1.0, s.1.1.0)) in
    rw (r, ← q0, ← q1, ← q2, ← q3) refl
only (a ∷ b ∷ c ∷ d ∷ []) z n s l h v m =
    let p = first_some a (b ∷ c ∷ d ∷ []) h in
    let q0 : a ≡ n / 268435456 = omega (arith, s.0, s.1.0, s.1.1.0, s.1.1.1.0) in
    let q1 : b ≡ n / 2097152 % 128 = omega (arith, s.0, s.1.0, s.1.1.0, s.1.1.1.0) in
    let q2 : c ≡ n / 16384 % 128 = omega (arith, s.0, s.1.0, s.1.1.0, s.1.1.1.0) in
    let q3 : d ≡ n / 128 % 128 = omega (arith, s.0, s.1.0, s.1.1.0, s.1.1.1.0) in
    let q4 : z ≡ n % 128 = omega (arith, s.0, s.1.0, s.1.1.0, s.1.1.1.0) in
    let r = groups_5 n (omega arith) in
    rw (r, ← q0, ← q1, ← q2, ← q3, ← q4) refl
only (a ∷ b ∷ c ∷ d ∷ e ∷ high) z n s l h v m =
    let p = first_some a (b ∷ c ∷ d ∷ e ∷ high) h in
    let big = base_128-grows (128 * (128 * (128 * (128 * (128 * 0 + a) + b) + c) + d) + e) high z in
    absurd (omega (arith, big, v, m, p))

pub subidentifier-only : (n : ℕ) (text : List ℕ) → IsSubidentifier n text → text ≡ subidentifier n
subidentifier-only n text h = h.text_is ∙ only h.high h.last n h.seven_bits h.last_seven h.shortest h.value h.limit

subidentifiers-only : (ns octets : List ℕ) → AreSubidentifiers ns octets → octets ≡ flat_map subidentifier ns
subidentifiers-only [] octets h = h
subidentifiers-only (n ∷ ns) octets (text, rest, is, parts, others) = rw (parts, subidentifier-only n text is, subidentifiers-only ns rest others) refl

-- An identifier has one content.
pub identifier-only : (arcs content : List ℕ) → IsIdentifier arcs content → content ≡ identifier arcs
unfolding identifier
identifier-only arcs content h = subidentifiers-only (subidentifiers arcs) content h.spelled

pub one_content : (arcs a b : List ℕ) → IsIdentifier arcs a → IsIdentifier arcs b → a ≡ b
one_content arcs a b h k = identifier-only arcs a h ∙ sym (identifier-only arcs b k)

-- A content is one identifier's.
pub one_identifier : (a b content : List ℕ) → IsIdentifier a content → IsIdentifier b content → a ≡ b
one_identifier a b content h k = same_Some a b (sym (identifier_in-again a content h) ∙ identifier_in-again b content k)

-- ---- it is a content

are_subidentifiers : (ns : List ℕ) → AllByRecursion (λ n. n ≤ 4294967295) ns → AreSubidentifiers ns (flat_map subidentifier ns)
are_subidentifiers [] h = refl
are_subidentifiers (n ∷ ns) h = (subidentifier n, flat_map subidentifier ns, subidentifier-is n h.0, refl, are_subidentifiers ns h.1)

at_most_each : (arcs : List ℕ) → AllByRecursion (λ arc. arc < 2 ^ 32) arcs → AllByRecursion (λ n. n ≤ 4294967295) arcs
at_most_each [] h = tt
at_most_each (a ∷ arcs) h = (omega (arith, h.0), at_most_each arcs h.1)

pub identifier-is : (arcs : List ℕ) → AreArcs arcs → IsObjectId arcs → IsIdentifier arcs (identifier arcs)
unfolding identifier
identifier-is [] are object = absurd object
identifier-is (a ∷ []) are object = absurd object
identifier-is (a ∷ b ∷ arcs) are object = record {
  object_id = object;
  most = are.most;
  spelled = are_subidentifiers ((40 * a + b) ∷ arcs) (omega (arith, object.0, object.2), at_most_each arcs are.limit.1.1);
}

-- ---- sizes

pub subidentifier-length : (n : ℕ) → length (subidentifier n) ≡ group_count n
subidentifier-length n =
    elim (cases_lt n 128) [
      | inl lt ↦ rw (groups_1 n lt, count_1 n lt) refl
      | inr le ↦ elim (cases_lt n 16384) [
        | inl lt1 ↦ rw (groups_2 n le lt1, count_2 n le lt1) refl
        | inr le1 ↦ elim (cases_lt n 2097152) [
          | inl lt2 ↦ rw (groups_3 n le1 lt2, count_3 n le1 lt2) refl
          | inr le2 ↦ elim (cases_lt n 268435456) [
            | inl lt3 ↦ rw (groups_4 n le2 lt3, count_4 n le2 lt3) refl
            | inr le3 ↦ rw (groups_5 n le3, count_5 n le3) refl
          ]
        ]
      ]
    ]

pub group_count-most : (n : ℕ) → group_count n ≤ 5
group_count-most n =
    elim (cases_lt n 128) [
      | inl lt ↦ rw (count_1 n lt) (omega arith)
      | inr le ↦ elim (cases_lt n 16384) [
        | inl lt1 ↦ rw (count_2 n le lt1) (omega arith)
        | inr le1 ↦ elim (cases_lt n 2097152) [
          | inl lt2 ↦ rw (count_3 n le1 lt2) (omega arith)
          | inr le2 ↦ elim (cases_lt n 268435456) [
            | inl lt3 ↦ rw (count_4 n le2 lt3) (omega arith)
            | inr le3 ↦ rw (count_5 n le3) (omega arith)
          ]
        ]
      ]
    ]

pub subidentifiers-short : (ns : List ℕ) → length (flat_map subidentifier ns) ≤ 5 * length ns
subidentifiers-short [] = omega arith
subidentifiers-short (n ∷ ns) = omega (arith, length-append (subidentifier n) (flat_map subidentifier ns), subidentifier-length n, group_count-most n, subidentifiers-short ns)

-- the content of an identifier has at most 635 octets
pub identifier-short : (arcs : List ℕ) → length arcs ≤ 128 → length (identifier arcs) ≤ 635
unfolding identifier
identifier-short [] most = omega arith
identifier-short (a ∷ []) most = omega arith
identifier-short (a ∷ b ∷ arcs) most = omega (arith, subidentifiers-short ((40 * a + b) ∷ arcs))

-- one more of a slice's numbers
pub subidentifiers_more : (first : ℕ) (others : List ℕ) (i : ℕ) → i < length others
    → flat_map subidentifier (first ∷ take (i + 1) others) ≡ flat_map subidentifier (first ∷ take i others) ++ subidentifier (get_or others i 0)
subidentifiers_more first others i h =
    ap (λ (ns : List ℕ). flat_map subidentifier (first ∷ ns)) (take_more others i 0 h) ∙ sym (flat_map_more subidentifier [] (first ∷ take i others) (get_or others i 0))

pub subidentifiers_so_far : (first : ℕ) (others : List ℕ) (i : ℕ) → i ≤ length others → length (flat_map subidentifier (first ∷ take i others)) ≤ 5 * (i + 1)
subidentifiers_so_far first others i h = omega (arith, subidentifiers-short (first ∷ take i others), length-take-le i others h)
