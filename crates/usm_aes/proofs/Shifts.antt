-- Rows that are shifted n times: what the shifts go through.
use Rattle.std.proofs.Common.{◌≡◌, ℕ, zero, suc, ◌+◌, ◌%◌, ◌<◌, List, [], ◌∷◌, ◌++◌, map, length, get_or, add-one, refl, sym, ap, ◌∙◌, arith, subst, inl, inr, w8, Fits}
use Rattle.std.specs.Prelude.{bit_xor}
use Rattle.std.proofs.lemmas.Bool.{cases_lt}
use Rattle.std.proofs.lemmas.List.{length-map}
use Rattle.std.proofs.lemmas.Simd.{length-zip2}
use lib.Lanes.{zip2, Each1, pick_l}
use Rattle.usm_aes.specs.Aes.{mix_columns, shift_rows, sub_bytes}
use Rattle.usm_aes.specs.Field.{product, sbox}
use Rattle.usm_aes.specs.Lanes.{shifted}
use Rattle.usm_aes.specs.declared.lanes.TheConstants.{ABOVE, BELOW, SHIFTED_BACK}
use Rattle.usm_aes.proofs.Mixing.{listed, mixed, mixed_lanes, octet_fits, sixteen}

pub shifted_none : (v : List ℕ) → shifted 0 v ≡ v
unfolding shifted
shifted_none v = refl

shifted_last : (n : ℕ) (v : List ℕ) → shifted (suc n) v ≡ shift_rows (shifted n v)
unfolding shifted
shifted_last zero v = refl
shifted_last (suc n) v = shifted_last n (shift_rows v)

pub shifted_more : (n : ℕ) (v : List ℕ) → shifted (n + 1) v ≡ shift_rows (shifted n v)
shifted_more n v = rw add-one (shifted_last n v)

pub length-shifted : (n : ℕ) (v : List ℕ) → length v ≡ 16 → length (shifted n v) ≡ 16
unfolding shifted
length-shifted zero v long = long
length-shifted (suc n) v long = length-shifted n (shift_rows v) refl

rows_fit : (v : List ℕ) → ((k : ℕ) → get_or v k 0 < 256) → (k : ℕ) → get_or (shift_rows v) k 0 < 256
rows_fit v lt =
    let f : (k : ℕ) → Fits w8 (get_or v k 0) = λ k. record { fits = lt k } in
    octet_fits (shift_rows v)
    (f 0, (f 5, (f 10, (f 15, (f 4, (f 9, (f 14, (f 3, (f 8, (f 13, (f 2, (f 7, (f 12, (f 1, (f 6, (f 11, tt))))))))))))))))

pub shifted_fit : (n : ℕ) (v : List ℕ) → ((k : ℕ) → get_or v k 0 < 256) → (k : ℕ) → get_or (shifted n v) k 0 < 256
unfolding shifted
shifted_fit zero v lt = lt
shifted_fit (suc n) v lt = shifted_fit n (shift_rows v) (rows_fit v lt)

-- ---- functions of octets, and sums

pub rows_of-map : (f : ℕ → ℕ) (v : List ℕ) → length v ≡ 16 → shift_rows (map f v) ≡ map f (shift_rows v)
rows_of-map f v long = subst (λ (l : List ℕ). shift_rows (map f l) ≡ map f (shift_rows l)) (sym (sixteen v long)) refl

pub shifted-map : (n : ℕ) (f : ℕ → ℕ) (v : List ℕ) → length v ≡ 16 → shifted n (map f v) ≡ map f (shifted n v)
unfolding shifted
shifted-map zero f v long = refl
shifted-map (suc n) f v long = ap (shifted n) (rows_of-map f v long) ∙ shifted-map n f (shift_rows v) refl

rows_of-sum : (p q : List ℕ) → length p ≡ 16 → length q ≡ 16 → shift_rows (zip2 bit_xor p q) ≡ zip2 bit_xor (shift_rows p) (shift_rows q)
rows_of-sum p q long_p long_q =
    subst (λ (l : List ℕ). shift_rows (zip2 bit_xor l q) ≡ zip2 bit_xor (shift_rows l) (shift_rows q)) (sym (sixteen p long_p))
    (subst (λ (m : List ℕ). shift_rows (zip2 bit_xor (listed (λ k. get_or p k 0)) m) ≡ zip2 bit_xor (shift_rows (listed (λ k. get_or p k 0))) (shift_rows m))
    (sym (sixteen q long_q)) refl)

pub shifted-sum : (n : ℕ) (p q : List ℕ) → length p ≡ 16 → length q ≡ 16 → shifted n (zip2 bit_xor p q) ≡ zip2 bit_xor (shifted n p) (shifted n q)
unfolding shifted
shifted-sum zero p q long_p long_q = refl
shifted-sum (suc n) p q long_p long_q = ap (shifted n) (rows_of-sum p q long_p long_q) ∙ shifted-sum n (shift_rows p) (shift_rows q) refl refl

-- ---- moves that are taken from a table in turns

-- what holds from each row of four to the one before holds from each number to the one before
in_turns : (P : ℕ → ℕ → Type 0) → P 1 0 → P 2 1 → P 3 2 → P 0 3 → (n : ℕ) → P (suc n % 4) (n % 4)
in_turns P one two three four n = elim (cases_lt (n % 4) 1) [
  | inl lt ↦ let at : n % 4 ≡ 0 = omega arith in let next : suc n % 4 ≡ 1 = omega arith in rw (at, next) one
  | inr ge ↦ elim (cases_lt (n % 4) 2) [
    | inl lt ↦ let at : n % 4 ≡ 1 = omega arith in let next : suc n % 4 ≡ 2 = omega arith in rw (at, next) two
    | inr ge ↦ elim (cases_lt (n % 4) 3) [
      | inl lt ↦ let at : n % 4 ≡ 2 = omega arith in let next : suc n % 4 ≡ 3 = omega arith in rw (at, next) three
      | inr ge ↦ let at : n % 4 ≡ 3 = omega arith in let next : suc n % 4 ≡ 0 = omega arith in rw (at, next) four
    ]
  ]
]

-- the octets that a row of the table picks
abbrev pub picked : List (List ℕ) → ℕ → List ℕ → List ℕ
picked table row v = pick_l 0 v (get_or table row [])

below_in_turns : (f : ℕ → ℕ) (n : ℕ) → shift_rows (picked BELOW (suc n % 4) (listed f)) ≡ picked BELOW (n % 4) (shift_rows (listed f))
below_in_turns f = in_turns (λ next row. shift_rows (picked BELOW next (listed f)) ≡ picked BELOW row (shift_rows (listed f))) refl refl refl refl

above_in_turns : (f : ℕ → ℕ) (n : ℕ) → shift_rows (picked ABOVE (suc n % 4) (listed f)) ≡ picked ABOVE (n % 4) (shift_rows (listed f))
above_in_turns f = in_turns (λ next row. shift_rows (picked ABOVE next (listed f)) ≡ picked ABOVE row (shift_rows (listed f))) refl refl refl refl

-- a move within columns, from its first row on
pub shifted-below : (n : ℕ) (v : List ℕ) → length v ≡ 16 → shifted n (picked BELOW (n % 4) v) ≡ picked BELOW 0 (shifted n v)
unfolding shifted
shifted-below zero v long = refl
shifted-below (suc n) v long =
    ap (shifted n) (subst (λ (l : List ℕ). shift_rows (picked BELOW (suc n % 4) l) ≡ picked BELOW (n % 4) (shift_rows l))
    (sym (sixteen v long)) (below_in_turns (λ k. get_or v k 0) n))
    ∙ shifted-below n (shift_rows v) refl

pub shifted-above : (n : ℕ) (v : List ℕ) → length v ≡ 16 → shifted n (picked ABOVE (n % 4) v) ≡ picked ABOVE 0 (shifted n v)
unfolding shifted
shifted-above zero v long = refl
shifted-above (suc n) v long =
    ap (shifted n) (subst (λ (l : List ℕ). shift_rows (picked ABOVE (suc n % 4) l) ≡ picked ABOVE (n % 4) (shift_rows l))
    (sym (sixteen v long)) (above_in_turns (λ k. get_or v k 0) n))
    ∙ shifted-above n (shift_rows v) refl

-- shifted back, and then shifted as often
pub shifted-back : (n : ℕ) (v : List ℕ) → length v ≡ 16 → shifted n (picked SHIFTED_BACK (n % 4) v) ≡ v
unfolding shifted
shifted-back zero v long = sym (sixteen v long)
shifted-back (suc n) v long =
    ap (shifted n) (in_turns (λ next row. shift_rows (picked SHIFTED_BACK next v) ≡ picked SHIFTED_BACK row v) refl refl refl refl n)
    ∙ shifted-back n v long

-- ten shifts are two
pub shifted_ten : (v : List ℕ) → length v ≡ 16
    → pick_l 0 (v ++ v) (0 ∷ 9 ∷ 2 ∷ 11 ∷ 4 ∷ 13 ∷ 6 ∷ 15 ∷ 8 ∷ 1 ∷ 10 ∷ 3 ∷ 12 ∷ 5 ∷ 14 ∷ 7 ∷ []) ≡ shift_rows (shifted 9 v)
unfolding shifted
shifted_ten v long =
    subst (λ (l : List ℕ). pick_l 0 (l ++ l) (0 ∷ 9 ∷ 2 ∷ 11 ∷ 4 ∷ 13 ∷ 6 ∷ 15 ∷ 8 ∷ 1 ∷ 10 ∷ 3 ∷ 12 ∷ 5 ∷ 14 ∷ 7 ∷ []) ≡ shift_rows (shifted 9 l))
    (sym (sixteen v long)) refl

-- ---- a round

row_long : (table : List (List ℕ)) (n : ℕ) → Each1 (λ row. length row ≡ 16) table → n < length table → length (get_or table n []) ≡ 16
row_long [] n h lt = absurd (omega arith)
row_long (x ∷ table) zero h lt = h.0
row_long (x ∷ table) (suc n) h lt = row_long table n h.1 (omega arith)

picked_long : (table : List (List ℕ)) (n : ℕ) (v : List ℕ) → length table ≡ 4 → Each1 (λ row. length row ≡ 16) table → length (picked table (n % 4) v) ≡ 16
picked_long table n v four long =
    length-map (get_or table (n % 4) []) (λ k. get_or v k 0) ∙ row_long table (n % 4) long (omega (arith, four))

pub below_long : (n : ℕ) (v : List ℕ) → length (picked BELOW (n % 4) v) ≡ 16
below_long n v = picked_long BELOW n v refl (refl, (refl, (refl, (refl, tt))))

above_long : (n : ℕ) (v : List ℕ) → length (picked ABOVE (n % 4) v) ≡ 16
above_long n v = picked_long ABOVE n v refl (refl, (refl, (refl, (refl, tt))))

sum_long : (p q : List ℕ) → length p ≡ 16 → length q ≡ 16 → length (zip2 bit_xor p q) ≡ 16
sum_long p q long_p long_q = length-zip2 bit_xor p q (long_p ∙ sym long_q) ∙ long_p

-- a round with rows that are still to be shifted is that of the shifted rows
pub shifted-mixed : (n : ℕ) (once twice : List ℕ) → length once ≡ 16 → length twice ≡ 16
    → shifted n (mixed_lanes (get_or BELOW (n % 4) []) (get_or ABOVE (n % 4) []) once twice)
    ≡ mixed_lanes (get_or BELOW 0 []) (get_or ABOVE 0 []) (shifted n once) (shifted n twice)
shifted-mixed n once twice long_once long_twice =
    let below : List ℕ = picked BELOW (n % 4) once in
    let two_rows : List ℕ = zip2 bit_xor twice below in
    let under : List ℕ = picked BELOW (n % 4) two_rows in
    let over : List ℕ = picked ABOVE (n % 4) once in
    let long : length two_rows ≡ 16 = sum_long twice below long_twice (below_long n once) in
    let pairs : shifted n two_rows ≡ zip2 bit_xor (shifted n twice) (picked BELOW 0 (shifted n once)) =
    shifted-sum n twice below long_twice (below_long n once) ∙ ap (zip2 bit_xor (shifted n twice)) (shifted-below n once long_once) in
    shifted-sum n (zip2 bit_xor two_rows under) over (sum_long two_rows under long (below_long n two_rows)) (above_long n once)
    ∙ ap (λ l. zip2 bit_xor l (shifted n over)) (shifted-sum n two_rows under long (below_long n two_rows))
    ∙ ap (λ l. zip2 bit_xor (zip2 bit_xor (shifted n two_rows) l) (shifted n over)) (shifted-below n two_rows long)
    ∙ ap (λ l. zip2 bit_xor (zip2 bit_xor (shifted n two_rows) (picked BELOW 0 (shifted n two_rows))) l) (shifted-above n once long_once)
    ∙ ap (λ l. zip2 bit_xor (zip2 bit_xor l (picked BELOW 0 l)) (picked ABOVE 0 (shifted n once))) pairs

-- the round of a state, from the S-box and twice that with rows that are still to be shifted
pub round_mixed : (n : ℕ) (v once twice : List ℕ) → length v ≡ 16 → ((k : ℕ) → get_or v k 0 < 256)
    → once ≡ map sbox v → twice ≡ map (λ x. product 2 (sbox x)) v
    → shifted (n + 1) (mixed_lanes (get_or BELOW ((n + 1) % 4) []) (get_or ABOVE ((n + 1) % 4) []) once twice)
    ≡ mix_columns (shift_rows (sub_bytes (shifted n v)))
round_mixed n v once twice long fits is_once is_twice =
    let m : ℕ = n + 1 in
    let u : List ℕ = shifted m v in
    shifted-mixed m once twice (ap length is_once ∙ length-map v sbox ∙ long) (ap length is_twice ∙ length-map v (λ x. product 2 (sbox x)) ∙ long)
    ∙ ap (λ l. mixed_lanes (get_or BELOW 0 []) (get_or ABOVE 0 []) l (shifted m twice)) (ap (shifted m) is_once ∙ shifted-map m sbox v long)
    ∙ ap (mixed_lanes (get_or BELOW 0 []) (get_or ABOVE 0 []) (map sbox u)) (ap (shifted m) is_twice ∙ shifted-map m (λ x. product 2 (sbox x)) v long)
    ∙ mixed u (length-shifted m v long) (shifted_fit m v fits)
    ∙ ap (λ l. mix_columns (map sbox l)) (shifted_more n v)
    ∙ ap mix_columns (sym (rows_of-map sbox (shifted n v) (length-shifted n v long)))

-- the last round but for its key
pub round_ended : (v once moved : List ℕ) → length v ≡ 16
    → moved ≡ pick_l 0 (v ++ v) (0 ∷ 9 ∷ 2 ∷ 11 ∷ 4 ∷ 13 ∷ 6 ∷ 15 ∷ 8 ∷ 1 ∷ 10 ∷ 3 ∷ 12 ∷ 5 ∷ 14 ∷ 7 ∷ []) → once ≡ map sbox moved
    → once ≡ shift_rows (sub_bytes (shifted 9 v))
round_ended v once moved long is_moved is_once =
    is_once ∙ ap (map sbox) (is_moved ∙ shifted_ten v long) ∙ sym (rows_of-map sbox (shifted 9 v) (length-shifted 9 v long))
